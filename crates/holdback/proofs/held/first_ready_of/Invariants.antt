-- None of the operations before this place is ready.
use Rattle.holdback.specs.Internal.Packed.{NoneReadyIn}
use Rattle.holdback.proofs.held.first_ready_of.Given as goal

abbrev pub invariant-loop-place : goal.invariant-loop-place
invariant-loop-place l = NoneReadyIn l.clock l.ops.ops l.start l.place
