-- The greatest of a row is the greatest stamp of its site.
use Rattle.std.proofs.Common.{◌≡◌, ◌≢◌, ◌∙◌, ap, arith, get_or, subst, sym}
use Rattle.std.specs.List.{AllByRecursion}
use Rattle.rga_list.specs.Entries.{LinkedElements, IsGreatestOf}
use Rattle.rga_list.specs.Internal.SiteIds.{SiteIds, IsGreatest}
use Rattle.rga_list.specs.Internal.Links.{ids_at}
use Rattle.rga_list.proofs.Ordered.{greatest, no_greatest, above_greatest, above_none, row_same}
use Rattle.rga_list.proofs.rga.Rga.last_of.Goals as goal

pub returns-in_err-sum-clause-none : goal.returns-in_err-sum-clause-none
returns-in_err-sum-clause-none c =
    let place : c.from.result ≡ c.args.site = c.from.ensures ∙ c.number.ensures.value in
    let row : get_or c.self.inside.tables c.from.result c.index-self-from.result ≡ ids_at c.self.inside.tables c.args.site =
    row_same c.self.inside.tables c.from.result c.args.site c.index-self-from.result place
    (omega (arith, c.from.ensures, c.number.ensures.range, c.self.told)) in
    rw c.from_residual.ensures
    (subst (λ (r : LinkedElements). AllByRecursion (λ e. e.stamp.site ≢ c.args.site) r.entries) c.self.view_is
    (no_greatest c.self.inside.nodes.items c.self.inside.first c.self.inside.tables c.args.site c.self.invariant.0
    (ap (λ (r : SiteIds). r.ids) (sym row) ∙ c.in_err-sum.ensures.none)))

pub returns-clause-some : goal.returns-clause-some
returns-clause-some c =
    let place : c.from.result ≡ c.args.site = c.from.ensures ∙ c.number.ensures.value in
    let row : get_or c.self.inside.tables c.from.result c.index-self-from.result ≡ ids_at c.self.inside.tables c.args.site =
    row_same c.self.inside.tables c.from.result c.args.site c.index-self-from.result place
    (omega (arith, c.from.ensures, c.number.ensures.range, c.self.told)) in
    subst (λ (r : LinkedElements). IsGreatestOf r.entries c.args.site (record { sum = c.in_ok-sum.sum; site = c.args.site })) c.self.view_is
    (greatest c.self.inside.nodes.items c.self.inside.first c.self.inside.tables c.args.site c.in_ok-sum.sum c.self.invariant.0
    (subst (λ (r : SiteIds). IsGreatest r.ids c.in_ok-sum.sum) row c.in_ok-sum.ensures.some))

pub returns-in_err-sum-clause-free : goal.returns-in_err-sum-clause-free
returns-in_err-sum-clause-free c =
    rw c.from_residual.ensures (λ s e.
    above_none c.args.self.now.entries c.args.site s (rw c.from_residual.ensures at (returns-in_err-sum-clause-none c)) e)

pub returns-clause-above : goal.returns-clause-above
returns-clause-above c s e l =
    above_greatest c.args.self.now.entries c.args.site (record { sum = c.in_ok-sum.sum; site = c.args.site }) s (returns-clause-some c) e l
