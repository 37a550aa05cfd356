use Rattle.std.proofs.Common.{◌≡◌, length, Some, ap, ◌∙◌, sym, subst, arith}
use Rattle.std.specs.List.{slice_get}
use Rattle.counted_tree.specs.declared.kept.node.Node.{Node}
use Rattle.counted_tree.specs.Internal.Keys.{key_and_width_of}
use Rattle.counted_tree.specs.Internal.PackedNode.{elem_of, node_of}
use Rattle.counted_tree.specs.Internal.Store.{Store, nodes_of}
use Rattle.counted_tree.proofs.NodeKeys.{elem_below_at, read_at, node_at, key_and_width_back, length-nodes_of}
use Rattle.counted_tree.proofs.kept.nodes.Nodes.look.Goals as goal

pub index-requires : goal.index-requires
index-requires c =
    let nodes = c.self.inside.nodes.items in
    let keys_and_widths = c.self.inside.keys_and_widths.items in
    let packed = c.index-packed.result.now in
    let long : length (nodes_of keys_and_widths nodes) ≡ length c.args.self.now.nodes = ap (λ (s : Store). length s.nodes) c.self.view_is in
    let at : slice_get nodes c.args.at ≡ Some packed =
    read_at nodes c.args.at packed (omega (arith, long, length-nodes_of keys_and_widths nodes, c.requires)) c.index-packed.ensures in
    omega (
      arith,
      elem_below_at (length keys_and_widths) nodes c.args.at packed c.self.invariant.3 at,
      c.elem_of.ensures,
      c.self.inside.keys_and_widths.ok.0,
    )

pub returns-clause-node : goal.returns-clause-node
returns-clause-node c =
    let nodes = c.self.inside.nodes.items in
    let keys_and_widths = c.self.inside.keys_and_widths.items in
    let packed = c.index-packed.result.now in
    let t = c.index.result.now in
    let long : length (nodes_of keys_and_widths nodes) ≡ length c.args.self.now.nodes = ap (λ (s : Store). length s.nodes) c.self.view_is in
    let at : slice_get nodes c.args.at ≡ Some packed =
    read_at nodes c.args.at packed (omega (arith, long, length-nodes_of keys_and_widths nodes, c.requires)) c.index-packed.ensures in
    let told = elem_below_at (length keys_and_widths) nodes c.args.at packed c.self.invariant.3 at in
    let key_and_width : slice_get keys_and_widths (elem_of packed) ≡ Some t =
    ap (slice_get keys_and_widths) (sym c.elem_of.ensures)
    ∙ read_at keys_and_widths c.elem_of.result t (omega (arith, told, c.elem_of.ensures)) c.index.ensures in
    subst (λ (s : Store). slice_get s.nodes c.args.at ≡ Some c.unpack.result) c.self.view_is
    (node_at keys_and_widths nodes c.args.at packed t at key_and_width ∙ ap Some (sym c.unpack.ensures))

pub returns-clause-told : goal.returns-clause-told
returns-clause-told c =
    let nodes = c.self.inside.nodes.items in
    let keys_and_widths = c.self.inside.keys_and_widths.items in
    let packed = c.index-packed.result.now in
    let t = c.index.result.now in
    let long : length (nodes_of keys_and_widths nodes) ≡ length c.args.self.now.nodes = ap (λ (s : Store). length s.nodes) c.self.view_is in
    let at : slice_get nodes c.args.at ≡ Some packed =
    read_at nodes c.args.at packed (omega (arith, long, length-nodes_of keys_and_widths nodes, c.requires)) c.index-packed.ensures in
    let told = elem_below_at (length keys_and_widths) nodes c.args.at packed c.self.invariant.3 at in
    let key_and_width : slice_get keys_and_widths (elem_of packed) ≡ Some t =
    ap (slice_get keys_and_widths) (sym c.elem_of.ensures)
    ∙ read_at keys_and_widths c.elem_of.result t (omega (arith, told, c.elem_of.ensures)) c.index.ensures in
    let stays : slice_get keys_and_widths (elem_of packed) ≡ Some (key_and_width_of (node_of t packed).entry) =
    key_and_width ∙ ap Some (sym (key_and_width_back t)) in
    subst (λ (s : Store). slice_get s.keys_and_widths c.unpack.result.entry.elem ≡ Some (key_and_width_of c.unpack.result.entry))
    c.self.view_is
    (subst (λ (n : Node). slice_get keys_and_widths n.entry.elem ≡ Some (key_and_width_of n.entry)) (sym c.unpack.ensures) stays)
