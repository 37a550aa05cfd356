-- Sessions have rising numbers, so there are fewer than the number that the next one gets.
use Rattle.std.proofs.Common.{ℕ, ◌+◌, ◌<◌, List, [], ◌∷◌, length, arith}
use Rattle.opid.specs.Sessions.{Session, HaveRisingNumbers}
use Rattle.room.proofs.machine.Machine.sessions.Goals as goal

fewer_than_next : (low next : ℕ) (ws : List Session) → HaveRisingNumbers low next ws → low + length ws < next
fewer_than_next low next [] h = omega arith
fewer_than_next low next (w ∷ ws) h = let first = h.0 in let rest = fewer_than_next w.number next ws h.1 in omega arith

pub overflow_cast-result : goal.overflow_cast-result
overflow_cast-result c =
    let few = fewer_than_next 0 c.self.inside.outbox.next_number c.self.inside.outbox.sessions c.len.ensures.numbered in omega arith
