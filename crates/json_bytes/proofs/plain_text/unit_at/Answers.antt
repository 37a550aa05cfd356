use Rattle.std.proofs.Common.{arith}
use Rattle.json_bytes.proofs.PlainText.{four_plain, unit_spelled}
use Rattle.json_bytes.proofs.plain_text.unit_at.Goals as goal

pub returns : goal.returns
returns c =
    let a = c.in_ok-a.ensures in
    let b = c.in_ok-b.ensures in
    let d = c.in_ok-c.ensures in
    let e = c.in_ok-d.ensures in
    record {
      is = unit_spelled _ _ _ _ _ _ _ _ a.digit b.digit d.digit e.digit a.value b.value d.value e.value;
      small = omega (arith, a.small, b.small, d.small, e.small);
      plainly = four_plain c.args.bytes.now c.args.at (omega arith) a.plain b.plain d.plain e.plain;
      ascii = e.ascii;
      within = omega arith;
    }
