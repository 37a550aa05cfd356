-- The numbers of the sites before this one are in the table.
use Rattle.std.proofs.Common.{◌≡◌, ◌<◌, ◌+◌, ◌*◌, ℕ, length, get_or}
use Rattle.opid.specs.Clocks.{entry}
use Rattle.holdback.proofs.held.due_numbers.Given as goal

abbrev pub invariant-loop-number : goal.invariant-loop-number
invariant-loop-number l = (length l.due ≡ 32) × ((s : ℕ) → s < l.number → get_or l.due s 0 ≡ s + (entry l.clock s + 1) * 32)
