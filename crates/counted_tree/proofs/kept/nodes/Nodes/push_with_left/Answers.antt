use Rattle.std.proofs.Common.{◌≡◌, ◌∷◌, ◌++◌, [], length, Some, ap, ◌∙◌, sym, subst, arith}
use Rattle.std.specs.List.{slice_get}
use Rattle.counted_tree.specs.declared.kept.node.Node.{Node}
use Rattle.counted_tree.specs.Internal.Store.{Store, nodes_of, AreElemsBelow}
use Rattle.counted_tree.proofs.NodeKeys.{elem_below_at, elems_below_push, length-nodes_of, nodes_copied, read_at}
use Rattle.counted_tree.proofs.kept.nodes.Nodes.push_with_left.Goals as goal

pub invariant_of-self : goal.invariant_of-self
invariant_of-self c =
    let nodes = c.self.inside.nodes.items in
    let keys_and_widths = c.self.inside.keys_and_widths.items in
    let packed = c.index-packed.result.now in
    let reserved = ap (λ (s : Store). s.reserved_nodes) c.self.view_is in
    let long : length (nodes_of keys_and_widths nodes) ≡ length c.args.self.now.nodes = ap (λ (s : Store). length s.nodes)
    c.self.view_is in
    let at : slice_get nodes c.args.at ≡ Some packed =
    read_at nodes c.args.at packed (omega (arith, long, length-nodes_of keys_and_widths nodes, c.requires.number)) c.index-packed.ensures in
    let below = elem_below_at (length keys_and_widths) nodes c.args.at packed c.self.invariant.3 at in (
      omega (arith, reserved, c.requires.reserved),
      omega (arith, reserved, c.requires.reserved),
      c.self.invariant.2,
      subst (AreElemsBelow (length keys_and_widths)) (sym c.push_reserved.ensures.items)
          (elems_below_push (length keys_and_widths) nodes c.with_left.result c.self.invariant.3
          (omega (arith, below, c.with_left.ensures.elem))),
    )

pub returns-clause-nodes : goal.returns-clause-nodes
returns-clause-nodes c =
    let nodes = c.self.inside.nodes.items in
    let keys_and_widths = c.self.inside.keys_and_widths.items in
    let packed = c.index-packed.result.now in
    let long : length (nodes_of keys_and_widths nodes) ≡ length c.args.self.now.nodes = ap (λ (s : Store). length s.nodes)
    c.self.view_is in
    let at : slice_get nodes c.args.at ≡ Some packed =
    read_at nodes c.args.at packed (omega (arith, long, length-nodes_of keys_and_widths nodes, c.requires.number)) c.index-packed.ensures in
    let change : Node → Node = λ n. record n { left = Some c.args.left; left_size = c.args.size } in
    λ n there. ap (nodes_of keys_and_widths) c.push_reserved.ensures.items
    ∙ nodes_copied keys_and_widths nodes c.args.at packed c.with_left.result change n at
    (subst (λ (s : Store). slice_get s.nodes c.args.at ≡ Some n) (sym c.self.view_is) there) c.with_left.ensures.node
    c.with_left.ensures.elem
    ∙ ap (λ (s : Store). s.nodes ++ change n ∷ []) c.self.view_is
