use Rattle.std.proofs.Common.{◌≡◌, ◌∙◌, ◌<◌, ap, arith, subst}
use Rattle.opid.specs.Lawful.{IsRisingAt}
use Rattle.versions.specs.Document.{Document}
use Rattle.opid.specs.Rising.{last_sum}
use Rattle.versions.proofs.Integrated.{above_last_sum}
use Rattle.versions.proofs.doc.Doc.last_sum.Goals as goal

pub returns-clause-rising : goal.returns-clause-rising
returns-clause-rising c x q h =
    let place : c.from.result ≡ c.args.site = c.from.ensures ∙ c.number.ensures.value in
    let within : c.from.result < 32 = omega (arith, c.from.ensures, c.number.ensures.range) in
    subst (λ (r : Document). IsRisingAt r.log x) c.self.view_is
    (above_last_sum c.self.inside.log.ops x c.args.site _ c.self.invariant.0.lawful
    (c.self.invariant.0.summed.at c.from.result within ∙ ap (last_sum c.self.inside.log.ops) place) q h)
