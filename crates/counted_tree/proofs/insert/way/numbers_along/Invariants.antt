use Rattle.std.proofs.Common.{◌≡◌, ◌+◌, ◌<◌, ◌≤◌, length, take, Some}
use Rattle.counted_tree.specs.Internal.Change.{tree_in}
use Rattle.counted_tree.specs.Internal.PathEntries.{under}
use Rattle.counted_tree.specs.Internal.Insertion.{AreAlong}
use Rattle.counted_tree.specs.Internal.Counter.{CountsOn}
use Rattle.counted_tree.proofs.insert.way.numbers_along.Given as goal

abbrev pub invariant-loop-side : goal.invariant-loop-side
invariant-loop-side l = record {
  below : l.at < length l.nodes.nodes;
  here : tree_in l.nodes (Some l.at) ≡ under (tree_in l.nodes (Some l.top)) (take l.side-index l.path);
  numbers : AreAlong l.nodes (tree_in l.nodes (Some l.top)) l.path l.numbers.items;
  count : length l.numbers.items ≡ l.side-index;
  cost : l.steps ≤ l.fn.steps + l.side-index;
  counts_on : CountsOn l.fn.steps l.steps;
}
