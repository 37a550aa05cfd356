use Rattle.std.proofs.Common.{◌∙◌, sym}
use Rattle.json_bytes.specs.Internal.Places.{spot_of}
use Rattle.json_bytes.proofs.Plainly.{array_closed}
use Rattle.json_bytes.proofs.plain.PlainReader.take_end_array.Goals as goal

pub returns-clause-yes : goal.returns-clause-yes
returns-clause-yes c = λ _.
    sym c.self.view_is
    ∙ array_closed c.as_bytes-bytes.result.now c.self.inside.text.now c.self.inside.at c.behind_value-at.result.0
    (spot_of c.self.inside.place) (spot_of c.behind_value-at.result.1) c.as_bytes-bytes.ensures.value
    (sym c.may_close.ensures ∙ c.if-not-may_close.false) (sym c.peek.ensures ∙ c.if-peek-ne93.false) c.behind_value-at.ensures.same
