use Rattle.shared_room.specs.Views.{IsPassOf}
use Rattle.lock_tests.proofs.shared.is_seen.Given as goal

abbrev pub invariant-loop-after : goal.invariant-loop-after
invariant-loop-after g l = IsPassOf l.room l.pass
