use Rattle.std.proofs.Common.{◌-◌}
use Rattle.lock_tests.proofs.locks.+fn-take_together-join+arg2+fn-take_together-join+arg3+take_together.Given as goal

abbrev pub decreases-take_together : goal.decreases-take_together
decreases-take_together g l = l.threads

abbrev pub decreases-join+arg2 : goal.decreases-join+arg2
decreases-join+arg2 g l = l.half

abbrev pub decreases-join+arg3 : goal.decreases-join+arg3
decreases-join+arg3 g l = l.threads - l.half
