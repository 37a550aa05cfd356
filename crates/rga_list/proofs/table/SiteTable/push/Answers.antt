-- The sums of a row still rise with a greater one behind.
use Rattle.std.proofs.Common.{sym, subst, ap, arith}
use Rattle.std.specs.Prelude.{◌<◌}
use Rattle.std.specs.List.{AllByRecursion as Each}
use Rattle.opid.specs.Internal.RisingPairs.{AreRising}
use Rattle.rga_list.specs.Internal.SiteIds.{SiteIds}
use Rattle.rga_list.proofs.Identifiers.{AreRising-push}
use Rattle.rga_list.proofs.table.SiteTable.push.Goals as goal

pub invariant_of-self-2 : goal.invariant_of-self-2
invariant_of-self-2 c =
    let below : Each (λ i. i.0 < c.args.sum) c.self.inside.ids.items =
    subst (λ v. Each (λ i. i.0 < c.args.sum) v) (sym (ap (λ (r : SiteIds). r.ids) c.self.view_is)) c.requires in (
      subst AreRising (sym c.in_ok-push.ensures.items) (AreRising-push c.self.inside.ids.items c.args.sum c.args.elem below
          c.self.invariant.0),
      omega arith,
    )
