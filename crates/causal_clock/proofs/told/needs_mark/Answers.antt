use Rattle.std.proofs.Common.{◌≡◌, [], Bool, true, false, not, eqb-true, replicate, refl, subst, sym}
use Rattle.opid.specs.Clocks.{sites}
use Rattle.opid.specs.Delivery.{clock_of}
use Rattle.causal_clock.specs.Internal.Told.{AreTold}
use Rattle.causal_clock.proofs.Picking.{made_alone}
use Rattle.causal_clock.proofs.told.needs_mark.Goals as goal

zeros : replicate 32 0 ≡ clock_of []
unfolding sites
zeros = refl

not_false : (b : Bool) → not b ≡ false → b ≡ true
not_false true h = refl
not_false false h = sym h

pub returns-clause-alone : goal.returns-clause-alone
returns-clause-alone c marked enough =
    made_alone c.args.whole c.args.before.now c.args.counts.now c.differing-counted.result c.told_sites.result c.told-counts
    (subst (λ z. AreTold false z c.args.counts.now c.differing-counted.result) zeros c.differing-counted.ensures)
    c.told_sites.ensures
    (eqb-true _ c.differing-counted.result (not_false _ enough))
