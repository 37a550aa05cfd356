-- the list begins with the pairs so far
use Rattle.std.proofs.Common.{◌≡◌, length, take}
use Rattle.operation_json.specs.Internal.Offers.{pairs_in}
use Rattle.operation_json.proofs.read.operation.read_clock.Given as goal

abbrev pub invariant-loop-place : goal.invariant-loop-place
invariant-loop-place l = (length l.list ≡ 32) × (take l.place l.list ≡ pairs_in (take l.place l.pairs))
