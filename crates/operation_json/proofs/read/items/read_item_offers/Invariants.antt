-- what was made so far, and what the rest gives, is what the whole list gives
use Rattle.std.proofs.Common.{◌≡◌, drop}
use Rattle.serde_json.specs.View.{items_view}
use Rattle.operation_json.specs.Operations.{each, items_told}
use Rattle.operation_json.specs.PackedOperations.{item_offer_of}
use Rattle.operation_json.proofs.Loops.{with_front}
use Rattle.operation_json.proofs.read.items.read_item_offers.Given as goal

abbrev pub invariant-loop-value : goal.invariant-loop-value
invariant-loop-value l = with_front l.offers.items (each item_offer_of (items_told (items_view (drop l.value-index l.values))))
    ≡ each item_offer_of (items_told (items_view l.values))
