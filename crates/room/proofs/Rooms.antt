-- What the clauses of a room's calls need of a room that is sound.
use Rattle.room.proofs.Converging.{room_converges}
use Rattle.room.proofs.KeepingUp.{room_keeps_up}
use Rattle.room.proofs.Intentions.{only_grows}

pub ruleset of_rooms = (room_converges, room_keeps_up, only_grows)
