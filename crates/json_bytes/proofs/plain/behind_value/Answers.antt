use Rattle.std.proofs.Common.{◌∙◌, sym, refl}
use Rattle.json_bytes.proofs.Plainly.{comma_passed}
use Rattle.json_bytes.proofs.plain.behind_value.Goals as goal

pub returns-then-next-eq44-clause-same : goal.returns-then-next-eq44-clause-same
returns-then-next-eq44-clause-same c =
    comma_passed c.args.bytes.now c.args.at c.args.at c.behind_spaces.result refl (sym c.peek-next.ensures ∙ c.if-next-eq44.true)
    c.behind_spaces.ensures.same
