-- The node of an element is its entry.
use Rattle.std.proofs.Common.{◌≡◌, ◌∙◌, ◌<◌, ap, arith, sym, Some, length}
use Rattle.rga_list.specs.declared.links.Node.{Node}
use Rattle.rga_list.specs.Entries.{LinkedElements, Entry, entry_of}
use Rattle.rga_list.specs.Internal.Links.{order_of, node_at}
use Rattle.rga_list.proofs.Ordered.{entry_of-order, length-entries, node_same}
use Rattle.rga_list.proofs.rga.Rga.get.Goals as goal

pub returns : goal.returns
returns c =
    let size : length c.args.self.now.entries ≡ length c.self.inside.nodes.items =
    sym (ap (λ (r : LinkedElements). length r.entries) c.self.view_is)
    ∙ length-entries c.self.inside.nodes.items c.self.inside.first c.self.invariant.0.linked in
    let within : c.args.elem < length c.self.inside.nodes.items = omega (arith, c.requires, size) in
    let node : c.index.result.now ≡ node_at c.self.inside.nodes.items c.args.elem =
    node_same c.self.inside.nodes.items c.args.elem c.index.result.now c.index.ensures within in
    sym (ap (λ (r : LinkedElements). entry_of c.args.elem r.entries) c.self.view_is)
    ∙ entry_of-order c.self.inside.nodes.items c.args.elem (order_of c.self.inside.nodes.items c.self.inside.first)
    (c.self.invariant.0.linked.covers c.args.elem within)
    ∙ ap (λ (n : Node). let e : Entry = record { elem = c.args.elem; stamp = n.stamp; ch = n.ch; shown = n.shown } in Some e)
    (sym (c.get-node.ensures ∙ node))
