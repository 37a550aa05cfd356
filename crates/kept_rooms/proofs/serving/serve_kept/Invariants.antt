-- The pass stays one of the hall, and the room that was opened one of its rooms.
use Rattle.std.proofs.Common.{◌≡◌}
use Rattle.ws_server.specs.Halls.{IsHallPassOf, IsConnOf}
use Rattle.kept_rooms.proofs.serving.serve_kept.Given as goal

abbrev pub invariant-loop : goal.invariant-loop
invariant-loop g l = record {
  hall : l.it.hall ≡ l.initial.it.hall;
  pass : IsHallPassOf l.it.hall.now l.it.pass;
  conn : IsConnOf l.it.hall.now l.it.conn;
}
