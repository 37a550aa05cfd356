use Rattle.std.proofs.Common.{arith}
use Rattle.json_bytes.proofs.PlainText.{two_units}
use Rattle.json_bytes.proofs.plain_text.paired_at.Goals as goal

pub returns : goal.returns
returns c =
    two_units c.args.bytes.now c.args.at c.args.high c.in_ok-low.low c.in_ok-ch.ch c.requires.first c.requires.low c.requires.below
    c.if-bytes-at-ne92.false c.if-bytes-at-ne117.false c.in_ok-low.ensures c.if-low-lt56320.false c.if-low-ge57344.false
    (omega (arith, c.in_ok-ch.ensures.value))
