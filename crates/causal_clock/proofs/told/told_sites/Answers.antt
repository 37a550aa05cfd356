use Rattle.std.proofs.Common.{sym, subst}
use Rattle.causal_clock.specs.Internal.Told.{AreTold}
use Rattle.causal_clock.proofs.Picking.{all_told}
use Rattle.causal_clock.proofs.told.told_sites.Goals as goal

pub returns-then-whole : goal.returns-then-whole
returns-then-whole c =
    subst (λ w. AreTold w c.args.before.now c.args.counts.now 4294967295) (sym c.if-whole.true)
    (all_told c.args.before.now c.args.counts.now)

pub returns : goal.returns
returns c = subst (λ w. AreTold w c.args.before.now c.args.counts.now c.differing.result) (sym c.if-whole.false) c.differing.ensures
