-- the pairs so far, and what the rest gives, is what the whole list gives
use Rattle.std.proofs.Common.{◌≡◌, take, drop}
use Rattle.serde_json.specs.View.{items_view}
use Rattle.operation_json.specs.Operations.{each, pair_of, items_told}
use Rattle.operation_json.specs.Internal.Offers.{pairs_in}
use Rattle.operation_json.proofs.Loops.{with_front}
use Rattle.operation_json.proofs.read.operation.check_pairs.Given as goal

abbrev pub invariant-loop-value : goal.invariant-loop-value
invariant-loop-value l = with_front (pairs_in (take l.value-index l.values))
    (each pair_of (items_told (items_view (drop l.value-index l.values)))) ≡ each pair_of (items_told (items_view l.values))
