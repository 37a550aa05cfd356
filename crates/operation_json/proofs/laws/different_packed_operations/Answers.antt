-- Two lists of operations with one packed text are what it is read as.
use Rattle.operation_json.proofs.PackedTexts.{different}
use Rattle.operation_json.proofs.laws.different_packed_operations.Goals as goal

pub returns : goal.returns
returns c = different
