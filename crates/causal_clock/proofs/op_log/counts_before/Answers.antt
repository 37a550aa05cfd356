use Rattle.std.proofs.Common.{rules}
use Rattle.opid.specs.Clocks.{sites}
use Rattle.causal_clock.proofs.op_log.counts_before.Goals as goal

pub put_before-requires-clause-zeros : goal.put_before-requires-clause-zeros
unfolding sites
put_before-requires-clause-zeros g c = search rules
