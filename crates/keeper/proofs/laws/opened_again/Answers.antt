use Rattle.keeper.proofs.TornFiles.{again}
use Rattle.keeper.proofs.laws.opened_again.Goals as goal

pub returns : goal.returns
returns c = again
