use Rattle.std.proofs.Common.{◌+◌, ◌*◌, ◌≤◌, length, drop, take}
use Rattle.counted_tree.specs.Internal.PathEntries.{under}
use Rattle.counted_tree.specs.Internal.Change.{tree_in}
use Rattle.counted_tree.specs.Internal.Insertion.{IsInserted}
use Rattle.counted_tree.specs.Steps.{IsCounted}
use Rattle.counted_tree.proofs.insert.path.insert_at.Given as goal

abbrev pub invariant-loop-level : goal.invariant-loop-level
invariant-loop-level l = record {
  within : l.level ≤ length l.path;
  made : IsInserted l.fn.nodes l.nodes l.fn.table l.table (under (tree_in l.fn.nodes l.fn.link) (take l.level l.path))
      (drop l.level l.path) l.entry l.made;
  cost : l.steps + 4 * length l.fn.nodes.nodes ≤ l.fn.steps + l.level + 4 * length l.nodes.nodes;
  counted : IsCounted l.fn.steps l.steps;
}

abbrev pub decreases-loop-level : goal.decreases-loop-level
decreases-loop-level l = l.level
