use Rattle.history_lock.specs.Locks.{IsPassOf, IsIdle}
use Rattle.lock_tests.proofs.crowd.takes_turns_in_line.Given as goal

abbrev pub invariant-loop : goal.invariant-loop
invariant-loop g l = IsPassOf l.lock l.pass × IsIdle l.pass
