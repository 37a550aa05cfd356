-- The link of a node is the element after it.
use Rattle.std.proofs.Common.{◌≡◌, ◌∙◌, ◌<◌, ◌≤◌, ap, sym, length, rules, subst, IfSome}
use Rattle.rga_list.specs.declared.links.Node.{Node}
use Rattle.rga_list.specs.Entries.{LinkedElements, next_of, elem_after, first_of}
use Rattle.rga_list.specs.Internal.Links.{order_of, node_at}
use Rattle.rga_list.proofs.Ordered.{next_of-within, first-order, after-order, after-beyond, order-within, node_same}
use Rattle.rga_list.proofs.rga.Rga.next.Goals as goal

pub returns-in-None-clause-value : goal.returns-in-None-clause-value
returns-in-None-clause-value c =
    rw c.in-None.is
    (first-order c.self.inside.nodes.items c.self.inside.first
    (order_of c.self.inside.nodes.items c.self.inside.first) c.self.invariant.0.linked.leads
    ∙ ap (λ (r : LinkedElements). first_of r.entries) c.self.view_is)

pub returns-then-elem-len-clause-value : goal.returns-then-elem-len-clause-value
returns-then-elem-len-clause-value c =
    let within : c.in-Some.elem < length c.self.inside.nodes.items = search rules in
    let node : c.index.result.now ≡ node_at c.self.inside.nodes.items c.in-Some.elem =
    node_same c.self.inside.nodes.items c.in-Some.elem c.index.result.now c.index.ensures within in
    rw c.in-Some.is
    (ap (λ (n : Node). n.next) (c.get.ensures ∙ node)
    ∙ after-order c.self.inside.nodes.items c.self.inside.first c.in-Some.elem
    (order_of c.self.inside.nodes.items c.self.inside.first) c.self.invariant.0.linked.leads
    (c.self.invariant.0.linked.covers c.in-Some.elem within)
    ∙ ap (λ (r : LinkedElements). elem_after c.in-Some.elem r.entries) c.self.view_is)

pub returns-else-elem-len-clause-value : goal.returns-else-elem-len-clause-value
returns-else-elem-len-clause-value c =
    let beyond : length c.self.inside.nodes.items ≤ c.in-Some.elem = search rules in
    rw c.in-Some.is
    (after-beyond c.self.inside.nodes.items c.in-Some.elem (order_of c.self.inside.nodes.items c.self.inside.first)
    (order-within c.self.inside.nodes.items c.self.inside.first c.self.invariant.0.linked) beyond
    ∙ ap (λ (r : LinkedElements). elem_after c.in-Some.elem r.entries) c.self.view_is)

pub returns-then-elem-len-clause-within : goal.returns-then-elem-len-clause-within
returns-then-elem-len-clause-within c =
    subst (λ o. IfSome o (λ k. k < length c.args.self.now.entries)) (sym (returns-then-elem-len-clause-value c))
    (subst (λ (r : LinkedElements). IfSome (next_of c.args.elem r.entries) (λ k. k < length r.entries)) c.self.view_is
    (next_of-within c.self.inside.nodes.items c.self.inside.first c.args.elem c.self.invariant.0.linked))
