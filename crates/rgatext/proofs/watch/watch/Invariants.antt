-- The passes stay those of the hall.
use Rattle.ws_server.specs.Halls.{IsHallPassOf}
use Rattle.rgatext.proofs.watch.watch.Given as goal

abbrev pub invariant-loop : goal.invariant-loop
invariant-loop g l =
    IsHallPassOf l.hall l.pass × (goal.iterator-loop g).can_next l.iterator' × (goal.iterator-loop g).is_finite l.iterator'
