-- What building new trees does to the nodes.
use Rattle.std.specs.Prelude.{◌≡◌, ℕ, ◌+◌, ◌<◌, ◌≤◌, ◌∷◌, ◌++◌, length, min, slice_get, Option}
use Rattle.counted_tree.specs.declared.entry.Entry.{Entry}
use Rattle.counted_tree.specs.Internal.Tree.{Tree, entries, height, IsBalanced}
use Rattle.counted_tree.specs.Internal.Tree.Tree.{Leaf, Fork}
use Rattle.counted_tree.specs.Internal.Arena.{linked, trees, IsLinkBelow, AreSound}
use Rattle.counted_tree.specs.Internal.Store.{Store}

-- the tree that a link names
abbrev pub tree_in : Store → Option ℕ → Tree
tree_in store link = linked (trees store.nodes) link

-- at most so many nodes were added, out of the reserve, no element, each earlier node stays, and each earlier link names the tree
-- that it named
pub record Adds (old new : Store) (most : ℕ) : Type 0 where
  pub longer : length old.nodes ≤ length new.nodes
  pub at_most : length new.nodes ≤ length old.nodes + most
  pub reserve : length new.nodes + new.reserved_nodes ≡ length old.nodes + old.reserved_nodes
  pub sound : AreSound new.nodes
  pub stays : (i : ℕ) → i < length old.nodes → slice_get new.nodes i ≡ slice_get old.nodes i
  pub keys_and_widths : new.keys_and_widths ≡ old.keys_and_widths
  pub reserved_keys_and_widths : new.reserved_keys_and_widths ≡ old.reserved_keys_and_widths
  pub same : (link : Option ℕ) → IsLinkBelow (length old.nodes) link → tree_in new link ≡ tree_in old link

-- neither number is more than `by` above the other
abbrev pub DifferByAtMost : ℕ → ℕ → ℕ → Type 0
DifferByAtMost by a b = (a ≤ b + by) × (b ≤ a + by)

-- the height of the lower side
abbrev pub low : Tree → ℕ
low Leaf = 0
low (Fork l x r) = min (height l) (height r)

-- a balanced tree of the two sides and the entry between them, with at most one level more than the higher side
pub record IsRebuilt (l : Tree) (x : Entry) (r t : Tree) : Type 0 where
  pub lists : entries t ≡ entries l ++ x ∷ entries r
  pub balanced : IsBalanced t
  pub plain : DifferByAtMost 1 (height l) (height r) → t ≡ Fork l x r
  pub left_falls : height l ≡ height r + 2 → height l ≡ low l + 2 → height t ≡ height l
  pub right_falls : height r ≡ height l + 2 → height r ≡ low r + 2 → height t ≡ height r
