-- The last of a row in rising order is the greatest.
use Rattle.std.proofs.Common.{◌≡◌, ◌∙◌, ◌<◌, sym, subst, ap, get_or, rules, length, ◌-◌}
use Rattle.opid.specs.Internal.RisingPairs.{AreRising}
use Rattle.rga_list.specs.Internal.SiteIds.{SiteIds, IsGreatest}
use Rattle.rga_list.proofs.Identifiers.{IsGreatest-last}
use Rattle.rga_list.proofs.table.SiteTable.last.Goals as goal

pub returns-clause-some : goal.returns-clause-some
returns-clause-some c =
    let here : c.as_slice-ids.result.now ≡ c.args.self.now.ids =
    c.as_slice-ids.ensures.value ∙ ap (λ (r : SiteIds). r.ids) c.self.view_is in
    let rising : AreRising c.as_slice-ids.result.now = subst AreRising (sym c.as_slice-ids.ensures.value) c.self.invariant.0 in
    let some : 0 < length c.as_slice-ids.result.now = search rules in
    subst (λ v. IsGreatest v (get_or c.as_slice-ids.result.now (length c.as_slice-ids.result.now - 1) (0, 0)).0) here
    (IsGreatest-last c.as_slice-ids.result.now (0, 0) rising some)
