use Rattle.causal_clock.proofs.Listed.{Goes}
use Rattle.causal_clock.proofs.clock.Clock.from_pairs.Given as goal

-- what is left goes on as the whole does
abbrev pub invariant-loop-site : goal.invariant-loop-site
invariant-loop-site l = Goes l.pairs l.least l.clock l.site-index
