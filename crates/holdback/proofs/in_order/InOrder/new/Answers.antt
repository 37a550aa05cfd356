use Rattle.std.proofs.Common.{arith, vec_len}
use Rattle.holdback.proofs.Slotted.{no_slots}
use Rattle.holdback.proofs.in_order.InOrder.new.Goals as goal

pub invariant_of-result : goal.invariant_of-result
invariant_of-result c = (
  omega (arith, c.new.ensures.len),
  omega arith,
  omega arith,
  omega (arith, c.new.ensures.len, c.new-2.ensures.len),
  omega arith,
  no_slots (vec_len c.new.result) c.new-2.result.items c.new-2.ensures.items,
)
