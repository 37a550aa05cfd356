use Rattle.std.proofs.Common.{◌∙◌, sym}
use Rattle.json_bytes.proofs.Plainly.{comma_passed}
use Rattle.json_bytes.proofs.plain.behind_spaced_value.Goals as goal

pub returns-then-peek-eq44-clause-same : goal.returns-then-peek-eq44-clause-same
returns-then-peek-eq44-clause-same c =
    comma_passed c.args.bytes.now c.args.at c.behind_spaces-end.result c.behind_spaces.result c.behind_spaces-end.ensures.same
    (sym c.peek.ensures ∙ c.if-peek-eq44.true) c.behind_spaces.ensures.same
