use Rattle.std.proofs.lemmas.Str.{chars-nil}
use Rattle.operation_json.proofs.read.run.no_text.Goals as goal

pub returns : goal.returns
returns c = chars-nil
