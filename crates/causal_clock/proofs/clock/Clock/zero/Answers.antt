use Rattle.std.proofs.Common.{rules}
use Rattle.opid.specs.Clocks.{sites}
use Rattle.causal_clock.proofs.clock.Clock.zero.Goals as goal

pub returns : goal.returns
unfolding sites
returns c = search rules
