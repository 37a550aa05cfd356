-- The text of an operation is read as its JSON value, which tells it.
use Rattle.operation_json.proofs.JsonTexts.{reads_back}
use Rattle.operation_json.proofs.laws.operations_read_back.Goals as goal

pub returns : goal.returns
returns c = reads_back
