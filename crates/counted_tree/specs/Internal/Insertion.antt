-- What an insertion along a path comes to, and what the table has for it before.
use Rattle.std.specs.Prelude.{◌≡◌, ℕ, ◌+◌, ◌-◌, ◌<◌, ◌≤◌, ◌∷◌, List, length, take, drop, slice_get, Option, Some, IsSome}
use Rattle.counted_tree.specs.declared.entry.TheConstants.{MAX_ELEMENTS}
use Rattle.counted_tree.specs.declared.kept.above.Above.{Above}
use Rattle.counted_tree.specs.declared.entry.Entry.{Entry}
use Rattle.counted_tree.specs.declared.insert.path.Inserted.{Inserted}
use Rattle.counted_tree.specs.declared.kept.row.Row.{Row}
use Rattle.counted_tree.specs.declared.kept.side.Side.{Side}
use Rattle.counted_tree.specs.Internal.Size.{IsSizeOf}
use Rattle.counted_tree.specs.Internal.Tree.{Tree, entries, height}
use Rattle.counted_tree.specs.Internal.Arena.{AreSound}
use Rattle.counted_tree.specs.Internal.Store.{Store}
use Rattle.counted_tree.specs.Internal.Change.{tree_in, Adds}
use Rattle.counted_tree.specs.Changes.{before}
use Rattle.counted_tree.specs.Internal.Growth.{IsGrown}
use Rattle.counted_tree.specs.Internal.GrownTree.{grown_link, IsTold}
use Rattle.counted_tree.specs.Internal.PathEntries.{entry_at, inserted_at, turned, under}
use Rattle.counted_tree.specs.Internal.Table.{AreOwn, IsKept, HasRow, PointsTo, Hangs}

-- the tree can have the entry: the table has what is in the tree, and so many nodes are reserved
pub record IsFit (most : ℕ) (table : List Row) (t : Tree) (path : List Side) (x : Entry) : Type 0 where
  pub reserved : height t + 6 ≤ most
  pub few : length (entries t) < MAX_ELEMENTS
  pub own : AreOwn (length table) (inserted_at t path x)
  pub kept : IsKept table t
  pub row : HasRow table t

-- the tree of a store and its table was given the entry, which led to these
pub record IsInserted (a b : Store) (old new : List Row) (t : Tree) (path : List Side) (x : Entry) (made : Inserted) : Type 0 where
  pub adds : Adds a b (height t + 3)
  pub told : (o : Option Above) → PointsTo old t o → IsTold b new o t made.top
  pub lists : entries (tree_in b (grown_link made.top)) ≡ inserted_at t path x
  pub grown : IsGrown t (tree_in b (grown_link made.top)) (length b.nodes - length a.nodes)
  pub hangs : Hangs old new (tree_in b (grown_link made.top))
  pub rank : IsSizeOf made.rank (before x.elem (inserted_at t path x))

-- one of its sides was, and the rest is to be made from that
pub record IsLift (a b : Store) (old new : List Row) (top : ℕ) (side : Side) (path : List Side) (x : Entry) (made : Inserted)
    : Type 0 where
  pub sound : AreSound a.nodes
  pub below : top < length a.nodes
  pub fit : IsFit a.reserved_nodes old (tree_in a (Some top)) (side ∷ path) x
  pub side_made : IsInserted a b old new (turned (tree_in a (Some top)) side) path x made

-- the numbers are those of the nodes on the way down a tree
abbrev pub AreAlong : Store → Tree → List Side → List ℕ → Type 0
AreAlong a t path numbers =
    (i k : ℕ) → slice_get numbers i ≡ Some k → (k < length a.nodes) × (tree_in a (Some k) ≡ under t (take i path))

-- the part of a tree that the first steps of a path lead to was given the entry, and the nodes above it are known
pub record IsRisen (a b : Store) (old new : List Row) (t : Tree) (path : List Side) (numbers : List ℕ) (x : Entry) (steps : ℕ)
    (made : Inserted) : Type 0 where
  pub sound : AreSound a.nodes
  pub along : AreAlong a t path numbers
  pub there : IsSome (entry_at t path)
  pub fit : IsFit a.reserved_nodes old t path x
  pub part_made : IsInserted a b old new (under t (take steps path)) (drop steps path) x made
