use Rattle.history_lock.proofs.Turns.{finds_what_was_left}
use Rattle.history_lock.proofs.laws.the_next_turn_finds_what_was_left.Goals as goal

pub returns : goal.returns
returns g c = finds_what_was_left g.T.Trailed.trail g.T.Trailed.mark
