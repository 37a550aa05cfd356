use Rattle.history_lock.proofs.Turns.{left_once}
use Rattle.history_lock.proofs.laws.one_trail_for_each_turn.Goals as goal

pub returns : goal.returns
returns g c = left_once
