-- Packed operations unfold by induction over those that are still to be packed.
use Rattle.operation_json.proofs.PackedItems.{unfolds}
use Rattle.operation_json.proofs.laws.packing_unfolds.Goals as goal

pub returns : goal.returns
returns c = unfolds
