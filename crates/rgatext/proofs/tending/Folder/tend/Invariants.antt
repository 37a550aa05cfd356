-- The passes stay those of the hall.
use Rattle.ws_server.specs.Halls.{IsHallPassOf}
use Rattle.rgatext.proofs.tending.Folder.tend.Given as goal

abbrev pub invariant-loop : goal.invariant-loop
invariant-loop g l =
    IsHallPassOf l.shared.hall.now l.pass × (goal.iterator-loop g).can_next l.iterator' × (goal.iterator-loop g).is_finite l.iterator'
