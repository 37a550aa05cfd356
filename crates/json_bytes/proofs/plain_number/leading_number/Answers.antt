use Rattle.std.proofs.Common.{◌<◌, ◌^◌, arith, rules}
use Rattle.json_bytes.proofs.Digits.{digit_more, few}
use Rattle.json_bytes.proofs.plain_number.leading_number.Goals as goal

pub overflow_mul-n : goal.overflow_mul-n
overflow_mul-n c =
    let small : c.loop-count.n < 10 ^ 8 =
    few c.args.bytes.now c.loop-count.count 8 c.loop-count.n (omega (arith, c.loop-count-test.true, c.min-most.ensures))
    c.loop-count.invariant.digits c.loop-count.invariant.value in
    search (rules, arith)

pub overflow_add-n : goal.overflow_add-n
overflow_add-n c =
    let small : c.loop-count.n < 10 ^ 8 =
    few c.args.bytes.now c.loop-count.count 8 c.loop-count.n (omega (arith, c.loop-count-test.true, c.min-most.ensures))
    c.loop-count.invariant.digits c.loop-count.invariant.value in
    search (rules, arith)

pub loop-count-preserved : goal.loop-count-preserved
loop-count-preserved c =
    let next =
    digit_more c.args.bytes.now c.loop-count.count c.loop-count.n c.from.result (omega (arith, c.loop-count-test.true, c.min-most.ensures))
    c.if-bytes-count-ge48.true c.if-bytes-count-le57.true c.from.ensures c.loop-count.invariant.digits c.loop-count.invariant.value in
    record { within = omega (arith, c.loop-count-test.true); digits = next.0; value = next.1 }
