use Rattle.room.proofs.Accepted.{consistent_places}
use Rattle.room.proofs.Intentions.{keeps_intentions}
use Rattle.room.proofs.Replayed.{legal_history}
use Rattle.room.proofs.laws.rooms_keep_their_promises.Goals as goal

pub returns-clause-consistent : goal.returns-clause-consistent
returns-clause-consistent c = legal_history

pub returns-clause-placed : goal.returns-clause-placed
returns-clause-placed c = consistent_places

pub returns-clause-keeps_intentions : goal.returns-clause-keeps_intentions
returns-clause-keeps_intentions c = keeps_intentions
