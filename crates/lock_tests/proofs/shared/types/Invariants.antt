use Rattle.shared_room.specs.Views.{IsPassOf}
use Rattle.lock_tests.proofs.shared.types.Given as goal

abbrev pub invariant-loop-n : goal.invariant-loop-n
invariant-loop-n g l = IsPassOf l.room l.pass
