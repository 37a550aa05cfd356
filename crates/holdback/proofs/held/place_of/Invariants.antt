-- None of the numbers before this block, or this place, is the one that is sought.
use Rattle.std.proofs.Common.{◌≡◌, ◌==◌, ◌<◌, ◌*◌, ℕ, false, get_or}
use Rattle.holdback.proofs.held.place_of.Given as goal

abbrev pub invariant-loop-block : goal.invariant-loop-block
invariant-loop-block l = (k d : ℕ) → k < l.block * 16 → (get_or l.numbers k d == l.number) ≡ false

abbrev pub invariant-loop-at : goal.invariant-loop-at
invariant-loop-at l = (k d : ℕ) → k < l.at → (get_or l.numbers k d == l.number) ≡ false
