-- Binary trees of entries, as the nodes stand for them.
use Rattle.std.specs.Prelude.{ℕ, ◌+◌, ◌≤◌, List, [], ◌∷◌, ◌++◌, max}
use Rattle.counted_tree.specs.declared.entry.Entry.{Entry}

-- a binary tree of entries
pub data Tree : Type 0 where
  Leaf : Tree
  Fork : Tree → Entry → Tree → Tree

-- the entries from left to right
abbrev pub entries : Tree → List Entry
entries Leaf = []
entries (Fork l x r) = entries l ++ x ∷ entries r

-- how many levels it has
abbrev pub height : Tree → ℕ
height Leaf = 0
height (Fork l x r) = max (height l) (height r) + 1

-- at each fork the two sides differ by at most one level
abbrev pub IsBalanced : Tree → Type 0
IsBalanced Leaf = Unit {0}
IsBalanced (Fork l x r) = IsBalanced l × IsBalanced r × (height l ≤ height r + 1) × (height r ≤ height l + 1)
