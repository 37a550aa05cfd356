use Rattle.std.proofs.Common.{◌∙◌, sym, ap, arith, drop}
use Rattle.json_bytes.specs.declared.plain.Place as standing
use Rattle.json_bytes.specs.Internal.Places.{tokens_behind, spot_of}
use Rattle.json_bytes.proofs.Plainly.{all_read}
use Rattle.json_bytes.proofs.plain.PlainReader.is_over.Goals as goal

pub returns-in-AfterValue : goal.returns-in-AfterValue
returns-in-AfterValue c = λ _.
    sym c.self.view_is
    ∙ ap (λ (p : standing.Place). tokens_behind (spot_of p) (drop c.self.inside.at c.self.inside.text.now)) c.in-AfterValue.is
    ∙ all_read c.self.inside.text.now c.self.inside.at (omega (arith, c.if-self.true))
