-- Two operations with one text are what it is read as.
use Rattle.operation_json.proofs.JsonTexts.{different}
use Rattle.operation_json.proofs.laws.different_operations.Goals as goal

pub returns : goal.returns
returns c = different
