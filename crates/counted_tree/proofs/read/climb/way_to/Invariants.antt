use Rattle.std.proofs.Common.{◌≤◌, ◌+◌, ◌-◌, ◌++◌, List, length}
use Rattle.counted_tree.specs.declared.kept.side.Side.{Side}
use Rattle.counted_tree.specs.Internal.Table.{IsWayUp}
use Rattle.counted_tree.proofs.read.climb.way_to.Given as goal

abbrev pub invariant-loop-above : goal.invariant-loop-above
invariant-loop-above l = record {
  rest : (up : List Side) × (length l.path.items + length up ≤ 25) × IsWayUp l.table l.at up;
  joins : (up : List Side) → IsWayUp l.table l.at up → IsWayUp l.table l.elem (l.path.items ++ up);
}

abbrev pub decreases-loop-above : goal.decreases-loop-above
decreases-loop-above l = 25 - length l.path.items
