-- There is as much of each room so far, and for no document is memory reserved.
use Rattle.std.proofs.Common.{◌≡◌, length, All}
use Rattle.rgatext.proofs.reopening.reopen_rooms.Given as goal

abbrev pub invariant-loop-state : goal.invariant-loop-state
invariant-loop-state g l = record {
  unreserved : All (λ it. it.doc.reserved ≡ 0) l.rooms.openings.items;
  openings : length l.rooms.openings.items ≡ length l.rooms.names.items;
  turns : length l.rooms.turns.items ≡ length l.rooms.names.items;
  states : length l.rooms.states.items ≡ length l.rooms.names.items;
  watched : length l.rooms.watched.items ≡ length l.rooms.names.items;
}
