use Rattle.keeper.proofs.TornFiles.{grows, tears, stays_cut}
use Rattle.keeper.proofs.laws.turns.Goals as goal

pub returns-clause-grows : goal.returns-clause-grows
returns-clause-grows c = grows

pub returns-clause-tears : goal.returns-clause-tears
returns-clause-tears c = tears

pub returns-clause-cut : goal.returns-clause-cut
returns-clause-cut c = stays_cut
