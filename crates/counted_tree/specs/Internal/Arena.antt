-- What the nodes stand for: each for a tree of which earlier nodes are the parts.
use Rattle.std.specs.Prelude.{ℕ, ◌<◌, List, [], ◌∷◌, ◌++◌, length, Option, Some, None, slice_index_or}
use Rattle.counted_tree.specs.declared.entry.Entry.{Entry}
use Rattle.counted_tree.specs.Internal.Keys.{IsSmall}
use Rattle.counted_tree.specs.Internal.Size.{IsSizeOf}
use Rattle.counted_tree.specs.Internal.Tree.{Tree, entries, IsBalanced}
use Rattle.counted_tree.specs.Internal.Tree.Tree.{Leaf, Fork}
use Rattle.counted_tree.specs.declared.kept.node.Node.{Node}

-- the tree that a link names, among the trees of the nodes so far
abbrev pub linked : List Tree → Option ℕ → Tree
linked ts None = Leaf
linked ts (Some i) = slice_index_or ts i Leaf

-- the tree of a node
abbrev pub tree_of : List Tree → Node → Tree
tree_of ts n = Fork (linked ts n.left) n.entry (linked ts n.right)

-- the trees so far, and then those of the further nodes
abbrev pub trees_after : List Tree → List Node → List Tree
trees_after ts [] = ts
trees_after ts (n ∷ ns) = trees_after (ts ++ tree_of ts n ∷ []) ns

-- the tree of each node
abbrev pub trees : List Node → List Tree
trees ns = trees_after [] ns

-- the link names one of the first `count` nodes, or none
abbrev pub IsLinkBelow : ℕ → Option ℕ → Type 0
IsLinkBelow count None = Unit {0}
IsLinkBelow count (Some i) = i < count

-- what a node tells of its parts is so, and they are earlier nodes
pub record IsSoundNode (ts : List Tree) (n : Node) : Type 0 where
  pub left_earlier : IsLinkBelow (length ts) n.left
  pub right_earlier : IsLinkBelow (length ts) n.right
  pub left_size : IsSizeOf n.left_size (entries (linked ts n.left))
  pub small : IsSmall n.entry
  pub balanced : IsBalanced (tree_of ts n)

-- each of the nodes is sound over the trees before it
abbrev pub AreSoundAfter : List Tree → List Node → Type 0
AreSoundAfter ts [] = Unit {0}
AreSoundAfter ts (n ∷ ns) = IsSoundNode ts n × AreSoundAfter (ts ++ tree_of ts n ∷ []) ns

-- each node is sound
abbrev pub AreSound : List Node → Type 0
AreSound ns = AreSoundAfter [] ns

-- the entries that a link names
abbrev pub list_of : List Node → Option ℕ → List Entry
list_of ns link = entries (linked (trees ns) link)
