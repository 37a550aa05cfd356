use Rattle.journal.proofs.WrittenLines.{one}
use Rattle.journal.proofs.laws.one_log.Goals as goal

pub returns : goal.returns
returns c = one
