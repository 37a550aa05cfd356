use Rattle.shared_room.specs.Views.{IsPassOf}
use Rattle.lock_benchmark.proofs.rooms.read_shared.Given as goal

abbrev pub invariant-loop : goal.invariant-loop
invariant-loop g l = IsPassOf l.room l.pass
