-- what was unfolded so far, of which the first 65 are kept, and what the rest gives, is what the whole list gives
use Rattle.std.proofs.Common.{◌≡◌, List, take, drop}
use Rattle.opid.specs.Operations.{Operation}
use Rattle.operation_json.specs.PackedOperations.{all_operations}
use Rattle.operation_json.proofs.Loops.{with_front}
use Rattle.operation_json.proofs.read.items.unfold_all.Given as goal

abbrev pub invariant-loop-offer : goal.invariant-loop-offer
invariant-loop-offer l = (front : List Operation) × (l.ops.items ≡ take 65 front)
    × (with_front front (all_operations (drop l.offer-index l.offers)) ≡ all_operations l.offers)
