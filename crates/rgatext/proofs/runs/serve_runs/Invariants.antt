-- Each run's passes are those of its hall, and there is as much of each room.
use Rattle.std.proofs.Common.{◌≡◌, length}
use Rattle.ws_server.specs.Halls.{rooms_of, IsHallPassOf}
use Rattle.rgatext.proofs.runs.serve_runs.Given as goal

abbrev pub invariant-loop : goal.invariant-loop
invariant-loop g l =
    IsHallPassOf l.opened.hall l.opened.pass
    × (length l.opened.turns.items ≡ length (rooms_of l.opened.hall))
    × (length l.opened.states.items ≡ length (rooms_of l.opened.hall))
    × (length l.opened.watched.items ≡ length (rooms_of l.opened.hall))
    × (goal.iterator-loop g).can_next l.iterator' × (goal.iterator-loop g).is_finite l.iterator'
