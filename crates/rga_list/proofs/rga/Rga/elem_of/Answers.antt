-- The table names what is found along the linked order.
use Rattle.std.proofs.Common.{◌≡◌, ◌∙◌, ◌<◌, ap, arith, get_or, subst, sym, length, IfSome}
use Rattle.rga_list.specs.Entries.{LinkedElements, elem_of}
use Rattle.rga_list.specs.Internal.SiteIds.{SiteIds, find_id}
use Rattle.rga_list.specs.Internal.Links.{ids_at}
use Rattle.rga_list.proofs.Ordered.{named-elem_of, elem_of-within, row_same}
use Rattle.rga_list.proofs.rga.Rga.elem_of.Goals as goal

pub returns-clause-value : goal.returns-clause-value
returns-clause-value c =
    let place : c.from.result ≡ c.args.stamp.site = c.from.ensures ∙ c.number.ensures.value in
    let row : get_or c.self.inside.tables c.from.result c.index-self-from.result ≡ ids_at c.self.inside.tables c.args.stamp.site =
    row_same c.self.inside.tables c.from.result c.args.stamp.site c.index-self-from.result place
    (omega (arith, c.from.ensures, c.number.ensures.range, c.self.told)) in
    c.find.ensures
    ∙ ap (λ (r : SiteIds). find_id c.args.stamp.sum r.ids) row
    ∙ named-elem_of c.self.inside.nodes.items c.self.inside.first c.self.inside.tables c.args.stamp c.self.invariant.0
    ∙ ap (λ (r : LinkedElements). elem_of c.args.stamp r.entries) c.self.view_is

pub returns-clause-within : goal.returns-clause-within
returns-clause-within c =
    subst (λ o. IfSome o (λ k. k < length c.args.self.now.entries)) (sym (returns-clause-value c))
    (subst (λ (r : LinkedElements). IfSome (elem_of c.args.stamp r.entries) (λ k. k < length r.entries)) c.self.view_is
    (elem_of-within c.self.inside.nodes.items c.self.inside.first c.self.inside.tables c.args.stamp c.self.invariant.0))
