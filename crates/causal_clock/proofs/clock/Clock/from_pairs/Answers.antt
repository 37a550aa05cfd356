use Rattle.std.proofs.Common.{◌<◌, arith, sym, subst}
use Rattle.causal_clock.proofs.Listings.{told, untold}
use Rattle.causal_clock.proofs.Listed.{Goes, Goes-start, Goes-step, Goes-stop, Goes-end}
use Rattle.causal_clock.proofs.clock.Clock.from_pairs.Goals as goal
use Rattle.causal_clock.proofs.clock.Clock.from_pairs.Goals.{then-number-least-via-then-number-least}
use Rattle.causal_clock.proofs.clock.Clock.from_pairs.Goals.{then-number-least-via-else-number-least+then-count-eq0}
use Rattle.causal_clock.proofs.clock.Clock.from_pairs.Goals.{then-number-least-via-else-number-least+else-count-eq0+then-count-sum}

pub loop-site-init : goal.loop-site-init
loop-site-init c = subst (λ v. Goes c.args.pairs.now 0 v 0) (sym c.zero-clock.ensures) (Goes-start c.args.pairs.now)

pub returns-then-number-least : goal.returns-then-number-least
returns-then-number-least c = untold c.args.pairs.now (λ h. Goes-stop c.args.pairs.now c.loop-site.least c.loop-site.clock
    c.loop-site.site-index c.loop-site-item.result c.loop-site.invariant c.loop-site-test.true c.loop-site-item.is (λ a b m.
    elim c.then-number-least.branch [
      | then-number-least-via-then-number-least w ↦ omega (arith, a, w.if-number-least.true, c.number-number.ensures.value)
      | then-number-least-via-else-number-least+then-count-eq0 w ↦ omega (arith, b, w.if-count-eq0.true)
      | then-number-least-via-else-number-least+else-count-eq0+then-count-sum w ↦ omega (arith, m, w.if-count-sum.true, w.sum.ensures.value)
    ]) h)

pub loop-site-preserved : goal.loop-site-preserved
loop-site-preserved c =
    let positive : 0 < c.loop-site-item.result.1 = omega (arith, c.if-count-eq0.false) in
    rw c.number-number.ensures.value
    (Goes-step c.args.pairs.now c.loop-site.least c.loop-site.clock c.loop-site.site-index c.loop-site-item.result c.put.new.self
    c.loop-site.invariant c.loop-site-test.true c.loop-site-item.is
    (omega (arith, c.if-number-least.false, c.number-number.ensures.value))
    positive
    (omega (arith, c.if-count-sum.false, c.sum.ensures.value, c.sum.ensures.kept.limit))
    (omega (arith, c.number-number.ensures.range, c.number-number.ensures.value))
    c.put.ensures.value
    c.put.ensures.total)

pub returns : goal.returns
returns c =
    let end = Goes-end c.args.pairs.now c.loop-site.least c.loop-site.clock c.loop-site.site-index c.loop-site.invariant (omega arith) in
    told c.args.pairs.now c.loop-site.clock end.0 end.1
