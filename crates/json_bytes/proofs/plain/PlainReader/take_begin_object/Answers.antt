use Rattle.std.proofs.Common.{◌∙◌, sym}
use Rattle.json_bytes.specs.Internal.Places.{spot_of}
use Rattle.json_bytes.proofs.Plainly.{object_opened}
use Rattle.json_bytes.proofs.plain.PlainReader.take_begin_object.Goals as goal

pub returns-clause-yes : goal.returns-clause-yes
returns-clause-yes c = λ _.
    sym c.self.view_is
    ∙ object_opened c.as_bytes-bytes.result.now c.self.inside.text.now c.self.inside.at c.behind_spaces-self-inside.result
    (spot_of c.self.inside.place) c.as_bytes-bytes.ensures.value (sym c.may_begin.ensures ∙ c.if-not-may_begin.false)
    (sym c.peek.ensures ∙ c.if-peek-ne123.false) c.behind_spaces-self-inside.ensures.same
