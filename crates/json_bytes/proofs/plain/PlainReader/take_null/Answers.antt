use Rattle.std.proofs.Common.{◌∙◌, sym}
use Rattle.json_bytes.specs.Internal.Places.{spot_of}
use Rattle.json_bytes.proofs.Plainly.{null_taken}
use Rattle.json_bytes.proofs.plain.PlainReader.take_null.Goals as goal

pub returns-clause-yes : goal.returns-clause-yes
returns-clause-yes c = λ _.
    let yes = c.if-not-is_null_behind.false in
    sym c.self.view_is
    ∙ null_taken c.as_bytes-bytes.result.now c.self.inside.text.now c.self.inside.at c.behind_value-at.result.0
    (spot_of c.self.inside.place) (spot_of c.behind_value-at.result.1) c.as_bytes-bytes.ensures.value
    (sym c.may_begin.ensures ∙ c.if-not-may_begin.false) (sym c.peek.ensures ∙ c.if-peek-ne110.false)
    (c.is_null_behind.ensures.told yes) (c.is_null_behind.ensures.ended yes) c.behind_value-at.ensures.same
