use Rattle.std.proofs.Common.{◌≡◌, ◌∷◌, ◌++◌, [], length, Some, ap, ◌∙◌, sym, subst, arith}
use Rattle.std.proofs.lemmas.Option.{slice_get_within}
use Rattle.std.specs.List.{slice_get}
use Rattle.counted_tree.specs.Internal.Keys.{key_and_width_of}
use Rattle.counted_tree.specs.Internal.Store.{Store, nodes_of, AreElemsBelow}
use Rattle.counted_tree.proofs.NodeKeys.{elems_below_push, nodes_pushed}
use Rattle.counted_tree.proofs.kept.nodes.Nodes.push.Goals as goal

pub invariant_of-self : goal.invariant_of-self
invariant_of-self c =
    let keys_and_widths = c.self.inside.keys_and_widths.items in
    let told : slice_get keys_and_widths c.args.node.entry.elem ≡ Some (key_and_width_of c.args.node.entry) =
    subst (λ (s : Store). slice_get s.keys_and_widths c.args.node.entry.elem ≡ Some (key_and_width_of c.args.node.entry))
    (sym c.self.view_is)
    c.requires.known.1 in
    let reserved = ap (λ (s : Store). s.reserved_nodes) c.self.view_is in
    let below = slice_get_within keys_and_widths c.args.node.entry.elem (key_and_width_of c.args.node.entry) told in (
      omega (arith, reserved),
      omega (arith, reserved),
      c.self.invariant.2,
      subst (AreElemsBelow (length keys_and_widths)) (sym c.push_reserved.ensures.items)
          (elems_below_push (length keys_and_widths) c.self.inside.nodes.items
          c.pack.result c.self.invariant.3 (omega (arith, below, c.pack.ensures.elem))),
    )

pub returns-clause-nodes : goal.returns-clause-nodes
returns-clause-nodes c =
    let keys_and_widths = c.self.inside.keys_and_widths.items in
    let told : slice_get keys_and_widths c.args.node.entry.elem ≡ Some (key_and_width_of c.args.node.entry) =
    subst (λ (s : Store). slice_get s.keys_and_widths c.args.node.entry.elem ≡ Some (key_and_width_of c.args.node.entry))
    (sym c.self.view_is)
    c.requires.known.1 in
    ap (nodes_of keys_and_widths) c.push_reserved.ensures.items
    ∙ nodes_pushed keys_and_widths c.self.inside.nodes.items c.pack.result c.args.node c.pack.ensures.node c.pack.ensures.elem told
    ∙ ap (λ (s : Store). s.nodes ++ c.args.node ∷ []) c.self.view_is
