use Rattle.std.proofs.Common.{◌≡◌, take}
use Rattle.keeper.specs.Memory.{seen_after}
use Rattle.keeper.proofs.memory.replayed.Given as goal

abbrev pub invariant-loop-call : goal.invariant-loop-call
invariant-loop-call l = l.bytes.items ≡ seen_after l.first (take l.call-index l.calls)
