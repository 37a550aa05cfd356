-- Where none is found, none of the numbers before this place is due.
use Rattle.std.proofs.Common.{◌≡◌, ◌+◌, false}
use Rattle.holdback.specs.Internal.Packed.{NoneDue}
use Rattle.holdback.proofs.held.has_due.Given as goal

abbrev pub invariant-loop-place : goal.invariant-loop-place
invariant-loop-place l = l.found ≡ false → NoneDue l.due l.numbers l.start (l.start + l.place)
