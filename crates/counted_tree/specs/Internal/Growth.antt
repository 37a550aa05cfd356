-- How a tree grows by one entry, and how many nodes that takes.
use Rattle.std.specs.Prelude.{◌≡◌, ℕ, ◌+◌, ◌≤◌, ◌⊎◌, List, ◌∷◌, ◌++◌}
use Rattle.counted_tree.specs.declared.entry.Entry.{Entry}
use Rattle.counted_tree.specs.Internal.Tree.{Tree, height, IsBalanced}
use Rattle.counted_tree.specs.Internal.Change.{low}

-- the one list has a further entry somewhere among those of the other
pub record Gains (new : Entry) (before after : List Entry) : Type 0 where
  pub front : List Entry
  pub back : List Entry
  pub without : before ≡ front ++ back
  pub with_it : after ≡ front ++ new ∷ back

-- the one tree is as high as the other, or one level higher
abbrev pub MayRise : Tree → Tree → Type 0
MayRise old new = (height old ≤ height new) × (height new ≤ height old + 1)

-- one level more: it is a single entry or leans to a side, and each level took one node
pub record IsTaller (old new : Tree) (made : ℕ) : Type 0 where
  pub rises : height new ≡ height old + 1
  pub leans : (height new ≡ 1) ⊎ (height new ≡ low new + 2)
  pub few : made ≤ height old + 1

-- as high as before: at most one rotation took two nodes more
pub record IsLevel (old new : Tree) (made : ℕ) : Type 0 where
  pub stays : height new ≡ height old
  pub few : made ≤ height old + 3

-- a balanced tree that came of another by an insertion, and how many nodes were made
pub record IsGrown (old new : Tree) (made : ℕ) : Type 0 where
  pub balanced : IsBalanced new
  pub cases : IsTaller old new made ⊎ IsLevel old new made
