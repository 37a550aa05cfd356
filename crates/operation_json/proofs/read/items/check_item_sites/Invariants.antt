-- what was made so far, and what the rest gives, is what the whole list gives
use Rattle.std.proofs.Common.{◌≡◌, drop}
use Rattle.operation_json.specs.Operations.{each}
use Rattle.operation_json.specs.PackedOperations.{item_sited}
use Rattle.operation_json.proofs.Loops.{with_front}
use Rattle.operation_json.proofs.read.items.check_item_sites.Given as goal

abbrev pub invariant-loop-offer : goal.invariant-loop-offer
invariant-loop-offer l = with_front l.all.items (each item_sited (drop l.offer-index l.offers)) ≡ each item_sited l.offers
