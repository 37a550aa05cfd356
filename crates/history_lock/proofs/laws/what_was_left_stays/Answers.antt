use Rattle.history_lock.proofs.Turns.{left_stays, grows_trans}
use Rattle.history_lock.proofs.laws.what_was_left_stays.Goals as goal

pub returns-clause-stays : goal.returns-clause-stays
returns-clause-stays g c = left_stays

pub returns-clause-grows : goal.returns-clause-grows
returns-clause-grows g c = grows_trans
