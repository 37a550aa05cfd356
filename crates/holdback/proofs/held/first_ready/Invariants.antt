-- None of the operations before this block is ready.
use Rattle.std.proofs.Common.{◌*◌}
use Rattle.holdback.specs.Internal.Packed.{NoneReadyIn}
use Rattle.holdback.proofs.held.first_ready.Given as goal

abbrev pub invariant-loop-block : goal.invariant-loop-block
invariant-loop-block l = NoneReadyIn l.clock l.ops.ops 0 (l.block * 16)
