-- A table whose reserve is refused stays.
use Rattle.std.proofs.Common.{◌∙◌, ℕ, ap, List, refl, ◌<◌, length, rules}
use Rattle.rga_list.specs.Internal.SiteIds.{SiteIds}
use Rattle.rga_list.proofs.Ordered.{row_same}
use Rattle.rga_list.proofs.Reserved.{set-keeps}
use Rattle.rga_list.proofs.rga.reserve_each.Goals as goal

pub returns-in_err-reserve-clause-same : goal.returns-in_err-reserve-clause-same
returns-in_err-reserve-clause-same c k =
    let ids : SiteIds → List (ℕ × ℕ) = λ r. r.ids in
    let within : c.loop-table.table-index < length c.loop-table.tables = search rules in
    set-keeps ids c.loop-table.tables c.loop-table.table-index k c.reserve.new.self within
    (ap ids (c.in_err-reserve.ensures.err ∙ row_same c.loop-table.tables c.loop-table.table-index c.loop-table.table-index
    c.table-item.result refl within))
    ∙ c.loop-table.invariant.same k
