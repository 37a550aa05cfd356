-- The table of the newest tree: for each element what it hangs from, and the least key and the height of the subtree that it tops.
use Rattle.std.specs.Prelude.{◌≡◌, ◌≢◌, ℕ, ◌<◌, List, [], ◌∷◌, ◌++◌, length, Option, Some, None, option_map, slice_get, slice_set}
use Rattle.counted_tree.specs.declared.entry.Entry.{Entry}
use Rattle.counted_tree.specs.declared.kept.above.Above.{Above}
use Rattle.counted_tree.specs.declared.kept.side.Side.{Side}
use Rattle.counted_tree.specs.declared.kept.side.Side.TheVariants.{Left, Right}
use Rattle.counted_tree.specs.declared.kept.row.Row.{Row}
use Rattle.counted_tree.specs.Internal.Keys.{least_key}
use Rattle.counted_tree.specs.Internal.Tree.{Tree, entries, height}
use Rattle.counted_tree.specs.Changes.{Lists}
use Rattle.counted_tree.specs.Internal.Tree.Tree.{Leaf, Fork}

-- no entry has the element
abbrev pub IsAbsent : ℕ → List Entry → Type 0
IsAbsent e [] = Unit {0}
IsAbsent e (x ∷ xs) = (x.elem ≢ e) × IsAbsent e xs

-- each element has a row among so many, and no element stands twice
abbrev pub AreOwn : ℕ → List Entry → Type 0
AreOwn n [] = Unit {0}
AreOwn n (x ∷ xs) = (x.elem < n) × IsAbsent x.elem xs × AreOwn n xs

-- the row of a tree's top element, which hangs from this
abbrev pub row_of : Tree → Option Above → Row
row_of t a = record { above = a; least = least_key (entries t); height = height t }

-- the table has the row of the tree's top element, which hangs from this
abbrev pub PointsTo : List Row → Tree → Option Above → Type 0
PointsTo table Leaf a = Unit {0}
PointsTo table (Fork l y r) a = slice_get table y.elem ≡ Some (row_of (Fork l y r) a)

-- the same, whatever it hangs from
abbrev pub HasRow : List Row → Tree → Type 0
HasRow table t = (a : Option Above) × PointsTo table t a

-- the table is right for each element of the tree but the top one
abbrev pub IsKept : List Row → Tree → Type 0
IsKept table Leaf = Unit {0}
IsKept table (Fork l x r) =
    IsKept table l × IsKept table r
    × PointsTo table l (Some (record { elem = x.elem; side = Left })) × PointsTo table r (Some (record { elem = x.elem; side = Right }))

-- the table with the row of the tree's top element, which hangs from this
abbrev pub pointed : List Row → Tree → Option Above → List Row
pointed table Leaf a = table
pointed table (Fork l y r) a = slice_set table y.elem (row_of (Fork l y r) a)

-- the two trees and the entry can be made one fork: the table is right for both, and no element stands twice
pub record IsReady (table : List Row) (l : Tree) (x : Entry) (r : Tree) : Type 0 where
  pub own : AreOwn (length table) (entries l ++ x ∷ entries r)
  pub left : IsKept table l
  pub right : IsKept table r

-- the table is right for the tree, and for each other element it is as before
pub record Hangs (old new : List Row) (t : Tree) : Type 0 where
  pub long : length new ≡ length old
  pub kept : IsKept new t
  pub others : (e : ℕ) → IsAbsent e (entries t) → slice_get new e ≡ slice_get old e

-- the table of the newest tree: a row for each of its elements, which are the numbers below their count, and none above the top one
pub record IsNewest (table : List Row) (t : Tree) : Type 0 where
  pub own : AreOwn (length table) (entries t)
  pub each : length (entries t) ≡ length table
  pub kept : IsKept table t
  pub top : PointsTo table t None
  pub all : (e : ℕ) → e < length table → Lists e (entries t)

-- what the element hangs from, by its row
abbrev pub above_in : List Row → ℕ → Option (Option Above)
above_in table e = option_map (λ w. w.above) (slice_get table e)

-- the sides on which one hangs, from the element up to the top
abbrev pub IsWayUp : List Row → ℕ → List Side → Type 0
IsWayUp table e [] = above_in table e ≡ Some None
IsWayUp table e (s ∷ up) = (p : ℕ) × (above_in table e ≡ Some (Some (record { elem = p; side = s }))) × IsWayUp table p up
