use Rattle.std.proofs.Common.{◌≤◌, length, decimal, arith, lit<}
use Rattle.std.proofs.lemmas.Fmt.{length-decimal-le}
use Rattle.json_bytes.proofs.byte_writing.put_number.Goals as goal

pub write_digits-requires : goal.write_digits-requires
write_digits-requires g c =
    let few : length (decimal c.args.n) ≤ 20 =
    length-decimal-le 20 c.args.n (lit< tt) (omega (arith, c.ranges.n)) (omega (arith, c.ranges.n)) in
    (omega arith, omega arith)

pub returns-clause-place : goal.returns-clause-place
returns-clause-place g c =
    let few : length (decimal c.args.n) ≤ 20 =
    length-decimal-le 20 c.args.n (lit< tt) (omega (arith, c.ranges.n)) (omega (arith, c.ranges.n)) in
    omega arith
