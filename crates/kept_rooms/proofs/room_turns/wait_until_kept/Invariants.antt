-- The pass stays one of the hall, and has seen no less.
use Rattle.std.proofs.Common.{◌≤◌, length}
use Rattle.ws_server.specs.Halls.{IsHallPassOf}
use Rattle.kept_rooms.specs.SeenLogs.{seen_log}
use Rattle.kept_rooms.proofs.room_turns.wait_until_kept.Given as goal

abbrev pub invariant-loop : goal.invariant-loop
invariant-loop g l = record {
  pass : IsHallPassOf l.hall l.pass;
  no_less : length (seen_log l.hall l.at l.initial.pass) ≤ length (seen_log l.hall l.at l.pass);
}
