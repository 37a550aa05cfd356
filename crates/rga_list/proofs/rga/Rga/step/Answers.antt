-- The node of an element is its entry, and its link is the element after it.
use Rattle.std.proofs.Common.{◌≡◌, ◌∙◌, ◌<◌, ap, arith, sym, subst, Some, length, IfSome}
use Rattle.rga_list.specs.declared.links.Node.{Node}
use Rattle.rga_list.specs.Entries.{LinkedElements, Entry, entry_of, elem_after, next_of}
use Rattle.rga_list.specs.Internal.Links.{order_of, node_at}
use Rattle.rga_list.proofs.Ordered.{entry_of-order, after-order, next_of-within, length-entries, node_same}
use Rattle.rga_list.proofs.rga.Rga.step.Goals as goal

pub returns-clause-entry : goal.returns-clause-entry
returns-clause-entry c =
    let size : length c.args.self.now.entries ≡ length c.self.inside.nodes.items =
    sym (ap (λ (r : LinkedElements). length r.entries) c.self.view_is)
    ∙ length-entries c.self.inside.nodes.items c.self.inside.first c.self.invariant.0.linked in
    let within : c.args.elem < length c.self.inside.nodes.items = omega (arith, c.requires, size) in
    let node : c.index.result.now ≡ node_at c.self.inside.nodes.items c.args.elem =
    node_same c.self.inside.nodes.items c.args.elem c.index.result.now c.index.ensures within in
    sym (ap (λ (r : LinkedElements). entry_of c.args.elem r.entries) c.self.view_is)
    ∙ entry_of-order c.self.inside.nodes.items c.args.elem (order_of c.self.inside.nodes.items c.self.inside.first)
    (c.self.invariant.0.linked.covers c.args.elem within)
    ∙ ap (λ (n : Node). let e : Entry = record { elem = c.args.elem; stamp = n.stamp; ch = n.ch; shown = n.shown } in Some e)
    (sym (c.get-node.ensures ∙ node))

pub returns-clause-next : goal.returns-clause-next
returns-clause-next c =
    let size : length c.args.self.now.entries ≡ length c.self.inside.nodes.items =
    sym (ap (λ (r : LinkedElements). length r.entries) c.self.view_is)
    ∙ length-entries c.self.inside.nodes.items c.self.inside.first c.self.invariant.0.linked in
    let within : c.args.elem < length c.self.inside.nodes.items = omega (arith, c.requires, size) in
    let node : c.index.result.now ≡ node_at c.self.inside.nodes.items c.args.elem =
    node_same c.self.inside.nodes.items c.args.elem c.index.result.now c.index.ensures within in
    ap (λ (n : Node). n.next) (c.get-node.ensures ∙ node)
    ∙ after-order c.self.inside.nodes.items c.self.inside.first c.args.elem
    (order_of c.self.inside.nodes.items c.self.inside.first) c.self.invariant.0.linked.leads
    (c.self.invariant.0.linked.covers c.args.elem within)
    ∙ ap (λ (r : LinkedElements). elem_after c.args.elem r.entries) c.self.view_is

pub returns-clause-within : goal.returns-clause-within
returns-clause-within c =
    subst (λ o. IfSome o (λ k. k < length c.args.self.now.entries)) (sym (returns-clause-next c))
    (subst (λ (r : LinkedElements). IfSome (next_of (Some c.args.elem) r.entries) (λ k. k < length r.entries)) c.self.view_is
    (next_of-within c.self.inside.nodes.items c.self.inside.first (Some c.args.elem) c.self.invariant.0.linked))
