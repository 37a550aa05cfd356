use Rattle.std.proofs.Common.{◌≤◌, ◌<◌, ◌⊎◌, inl, inr, arith}
use Rattle.json_bytes.proofs.PlainText.{one_unit}
use Rattle.json_bytes.proofs.plain_text.numbered_at.Goals as goal
use Rattle.json_bytes.proofs.plain_text.numbered_at.Goals.{else-unit-ge55296-via-then-unit-ge55296+else-unit-lt56320}
use Rattle.json_bytes.proofs.plain_text.numbered_at.Goals.{else-unit-ge55296-via-else-unit-ge55296}

pub returns : goal.returns
returns c =
    let alone : (c.in_ok-unit.unit < 55296) ⊎ (56320 ≤ c.in_ok-unit.unit) =
    elim c.else-unit-ge55296.branch [
      | else-unit-ge55296-via-then-unit-ge55296+else-unit-lt56320 w ↦ inr w.if-unit-lt56320.false
      | else-unit-ge55296-via-else-unit-ge55296 w ↦ inl w.if-unit-ge55296.false
    ] in
    one_unit c.args.bytes.now c.args.at c.in_ok-unit.unit c.in_ok-ch.ch c.in_ok-unit.ensures alone c.in_ok-ch.ensures.cases
    (omega (arith, c.in_ok-ch.ensures.value))
