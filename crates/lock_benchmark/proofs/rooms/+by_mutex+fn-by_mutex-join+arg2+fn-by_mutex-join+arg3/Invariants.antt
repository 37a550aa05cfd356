use Rattle.std.proofs.Common.{◌-◌}
use Rattle.lock_benchmark.proofs.rooms.+by_mutex+fn-by_mutex-join+arg2+fn-by_mutex-join+arg3.Given as goal

abbrev pub decreases-by_mutex : goal.decreases-by_mutex
decreases-by_mutex g l = l.threads

abbrev pub decreases-join+arg2 : goal.decreases-join+arg2
decreases-join+arg2 g l = l.half

abbrev pub decreases-join+arg3 : goal.decreases-join+arg3
decreases-join+arg3 g l = l.threads - l.half
