use Rattle.room.proofs.Intentions.{keeps_intentions}
use Rattle.room.proofs.room.Room.call.Goals as goal

pub returns-clause-keeps_intentions : goal.returns-clause-keeps_intentions
returns-clause-keeps_intentions c = keeps_intentions c.record.new.self c.record.ensures.consistent
