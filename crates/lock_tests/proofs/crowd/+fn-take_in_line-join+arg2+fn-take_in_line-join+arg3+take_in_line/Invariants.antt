use Rattle.std.proofs.Common.{◌-◌}
use Rattle.lock_tests.proofs.crowd.+fn-take_in_line-join+arg2+fn-take_in_line-join+arg3+take_in_line.Given as goal

abbrev pub decreases-take_in_line : goal.decreases-take_in_line
decreases-take_in_line g l = l.threads

abbrev pub decreases-join+arg2 : goal.decreases-join+arg2
decreases-join+arg2 g l = l.half

abbrev pub decreases-join+arg3 : goal.decreases-join+arg3
decreases-join+arg3 g l = l.threads - l.half
