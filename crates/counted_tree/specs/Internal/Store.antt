-- The nodes as they are kept, beside the key and the width of each element.
use Rattle.std.specs.Prelude.{ℕ, ◌-◌, ◌<◌, List, [], ◌∷◌, ◌++◌, map, slice_index}
use Rattle.counted_tree.specs.declared.kept.node.Node.{Node}
use Rattle.counted_tree.specs.declared.kept.packed_node.PackedNode.{PackedNode}
use Rattle.counted_tree.specs.Internal.PackedNode.{elem_of, node_of}

-- the nodes and how many more are reserved, the number that each element's key and width are kept as, and how many more of these
pub record Store : Type 0 where
  pub nodes : List Node
  pub reserved_nodes : ℕ
  pub keys_and_widths : List ℕ
  pub reserved_keys_and_widths : ℕ

-- the same with what is kept of one more element
abbrev pub with_element : Store → ℕ → Store
with_element a key_and_width =
    record a { keys_and_widths = a.keys_and_widths ++ key_and_width ∷ []; reserved_keys_and_widths = a.reserved_keys_and_widths - 1 }

-- the nodes that are kept so, with the keys and widths of their elements
abbrev pub nodes_of : List ℕ → List PackedNode → List Node
nodes_of keys_and_widths packed = map (λ r. node_of (slice_index keys_and_widths (elem_of r)) r) packed

-- the elements of the nodes are among the first so many
abbrev pub AreElemsBelow : ℕ → List PackedNode → Type 0
AreElemsBelow n [] = Unit {0}
AreElemsBelow n (r ∷ packed) = (elem_of r < n) × AreElemsBelow n packed
