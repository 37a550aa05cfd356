-- The passes stay those of the hall.
use Rattle.ws_server.specs.Halls.{IsHallPassOf}
use Rattle.rgatext.proofs.renewing.follow_all.Given as goal

abbrev pub invariant-loop-place : goal.invariant-loop-place
invariant-loop-place g l = IsHallPassOf l.hall l.pass
