use Rattle.std.proofs.Common.{◌≡◌, ℕ, ◌-◌, [], ◌∷◌, ◌++◌, List, length, ap, ◌∙◌, arith}
use Rattle.std.proofs.lemmas.List.{length_push}
use Rattle.counted_tree.specs.declared.kept.node.Node.{Node}
use Rattle.counted_tree.specs.Internal.Keys.{key_and_width_of}
use Rattle.counted_tree.specs.Internal.Store.{Store, nodes_of, with_element}
use Rattle.counted_tree.proofs.NodeKeys.{elems_below_more, nodes_with_element}
use Rattle.counted_tree.proofs.kept.nodes.Nodes.push_key_and_width.Goals as goal

pub invariant_of-self : goal.invariant_of-self
invariant_of-self c =
    let keys_and_widths = c.self.inside.keys_and_widths.items in
    let reserved = ap (λ (s : Store). s.reserved_keys_and_widths) c.self.view_is in
    let more = ap length c.push_reserved.ensures.items ∙ length_push keys_and_widths c.key_and_width.result in (
      c.self.invariant.0,
      c.self.invariant.1,
      omega (arith, reserved, c.requires.reserved),
      elems_below_more (length keys_and_widths) (length c.push_reserved.new.self.items) c.self.inside.nodes.items (omega (arith, more))
          c.self.invariant.3,
    )

pub returns : goal.returns
returns c =
    let keys_and_widths = c.self.inside.keys_and_widths.items in
    let nodes = c.self.inside.nodes.items in
    let key_and_width = key_and_width_of c.args.entry.now in
    let items : c.push_reserved.new.self.items ≡ keys_and_widths ++ key_and_width ∷ [] =
    c.push_reserved.ensures.items ∙ ap (λ t. keys_and_widths ++ t ∷ []) c.key_and_width.ensures in
    let same : nodes_of c.push_reserved.new.self.items nodes ≡ nodes_of keys_and_widths nodes =
    ap (λ ks. nodes_of ks nodes) items ∙ nodes_with_element keys_and_widths key_and_width nodes c.self.invariant.3 in
    let made : List Node → List ℕ → Store = λ ns ks. record {
      nodes = ns;
      reserved_nodes = c.self.inside.reserved_nodes;
      keys_and_widths = ks;
      reserved_keys_and_widths = c.self.inside.reserved_keys_and_widths - 1;
    } in
    ap (λ ns. made ns c.push_reserved.new.self.items) same ∙ ap (made (nodes_of keys_and_widths nodes)) items
    ∙ ap (λ (s : Store). with_element s key_and_width) c.self.view_is
