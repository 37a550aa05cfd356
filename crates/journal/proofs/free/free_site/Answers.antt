-- The next site is the one of the next number.
use Rattle.std.proofs.Common.{arith, refl, subst, below_more}
use Rattle.snapshot.specs.Snapshot.{LacksSite}
use Rattle.journal.proofs.free.free_site.Goals as goal
use Rattle.journal.proofs.free.free_site.Goals.{in-Ok+else-lacks_site, in_default}

pub returns-then-lacks_site-clause-least : goal.returns-then-lacks_site-clause-least
returns-then-lacks_site-clause-least c = λ s below. c.loop-number.invariant s (omega (arith, below, c.in-Ok.ensures.value))

pub loop-number-preserved : goal.loop-number-preserved
loop-number-preserved c =
    let here : LacksSite c.loop-number.number c.args.doc.now.log → ⊥ =
    elim c.match-new.branch [
      | in-Ok+else-lacks_site w ↦
          subst (λ s. LacksSite s c.args.doc.now.log → ⊥) w.in-Ok.ensures.value (w.lacks_site.ensures.no w.if-lacks_site.false)
      | in_default w ↦ absurd (omega (arith, w.in_default.ensures.refused.0 refl, c.loop-number-test.true))
    ] in
    below_more _ _ c.loop-number.invariant here

pub returns-clause-none : goal.returns-clause-none
returns-clause-none c = λ s below. c.loop-number.invariant s (omega (arith, below, c.loop-number-test.false))
