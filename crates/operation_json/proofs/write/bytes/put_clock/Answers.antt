use Rattle.std.proofs.Common.{◌-◌, ◌∷◌, drop, arith}
use Rattle.operation_json.proofs.ClockBytes.{pair_before, closed_some, closed_none}
use Rattle.operation_json.proofs.write.bytes.put_clock.Goals as goal

pub loop-done-preserved : goal.loop-done-preserved
loop-done-preserved c = record {
  text =
      pair_before c.args.clock.now c.loop-done.done (31 - c.loop-done.done) c.entry_of.result (93 ∷ drop c.args.at c.args.bytes.now)
      (drop c.loop-done.here c.loop-done.bytes) (drop c.put_entry-here.result c.put_entry-here.new.bytes)
      (omega (arith, c.loop-done-test.true)) c.entry_of.ensures c.loop-done.invariant.text c.put_entry-here.ensures.some
      c.put_entry-here.ensures.none;
  place = omega (arith, c.loop-done.invariant.place, c.put_entry-here.ensures.place);
  before = omega (arith, c.loop-done.invariant.before, c.put_entry-here.ensures.before);
}

pub returns-then-bytes-here-eq44-clause-told : goal.returns-then-bytes-here-eq44-clause-told
returns-then-bytes-here-eq44-clause-told c =
    closed_some c.args.clock.now c.loop-done.bytes (drop c.args.at c.args.bytes.now) (drop c.put.result c.put.new.bytes)
    c.loop-done.done c.loop-done.here c.loop-done.auto.done-end c.loop-done-test.false c.loop-done.invariant.text
    c.if-bytes-here-eq44.true c.put.ensures.told

pub returns-else-bytes-here-eq44-clause-told : goal.returns-else-bytes-here-eq44-clause-told
returns-else-bytes-here-eq44-clause-told c =
    closed_none c.args.clock.now c.loop-done.bytes (drop c.args.at c.args.bytes.now)
    (drop c.put-else-bytes-here-eq44.result c.put-else-bytes-here-eq44.new.bytes) c.loop-done.done c.loop-done.here
    c.loop-done.auto.done-end c.loop-done-test.false c.loop-done.invariant.text c.if-bytes-here-eq44.false
    c.put-else-bytes-here-eq44.ensures.told
