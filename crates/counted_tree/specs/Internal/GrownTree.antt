-- What is told of a tree that has grown.
use Rattle.std.specs.Prelude.{◌≡◌, ℕ, ◌<◌, List, length, Option, Some}
use Rattle.counted_tree.specs.declared.kept.above.Above.{Above}
use Rattle.counted_tree.specs.declared.kept.row.Row.{Row}
use Rattle.counted_tree.specs.declared.insert.level.Grown.{Grown}
use Rattle.counted_tree.specs.declared.insert.level.Grown.TheVariants.{Settled, Loose}
use Rattle.counted_tree.specs.Internal.Keys.{least_key}
use Rattle.counted_tree.specs.Internal.Tree.{Tree, entries, height}
use Rattle.counted_tree.specs.Internal.Store.{Store}
use Rattle.counted_tree.specs.Internal.Change.{tree_in}
use Rattle.counted_tree.specs.Internal.Branch.{IsBranch}
use Rattle.counted_tree.specs.Internal.Table.{PointsTo}

-- the link to it
abbrev pub grown_link : Grown → Option ℕ
grown_link (Settled k) = Some k
grown_link (Loose b) = b.link

-- it is as high as before, with the same least key, and the table has the row of its top, which hangs from this
pub record KeepsRow (table : List Row) (a : Option Above) (old new : Tree) : Type 0 where
  pub level : height new ≡ height old
  pub least : least_key (entries new) ≡ least_key (entries old)
  pub row : PointsTo table new a

-- what is told of it is so, where the tree that it was hung from this
abbrev pub IsTold : Store → List Row → Option Above → Tree → Grown → Type 0
IsTold store table a old (Settled k) = (k < length store.nodes) × KeepsRow table a old (tree_in store (Some k))
IsTold store table a old (Loose b) = IsBranch store b
