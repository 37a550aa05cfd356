use Rattle.std.proofs.Common.{◌+◌, ◌*◌, ◌≤◌, length, List}
use Rattle.counted_tree.specs.declared.insert.level.Grown.TheVariants.{Settled}
use Rattle.counted_tree.specs.declared.kept.row.Row.{Row}
use Rattle.counted_tree.specs.Internal.Tree.{Tree}
use Rattle.counted_tree.specs.Internal.Store.{Store}
use Rattle.counted_tree.specs.Internal.Insertion.{IsRisen}
use Rattle.counted_tree.specs.Internal.Counter.{CountsOn}
use Rattle.counted_tree.proofs.insert.path.lift_settled.Given as goal

abbrev pub invariant-loop-level : goal.invariant-loop-level
invariant-loop-level l = record {
  within : l.level ≤ length l.path;
  risen : (a : Store) → (tb : List Row) → (mid : List Row) → (t : Tree)
      → IsRisen a l.fn.nodes tb mid t l.path l.numbers l.entry l.fn.levels (record { top = Settled l.fn.part; rank = l.fn.rank })
      → IsRisen a l.nodes tb mid t l.path l.numbers l.entry l.level (record {
        top = Settled l.top;
        rank = record { shown = l.shown; units = l.units };
      });
  cost : l.steps + l.fn.levels + 4 * length l.fn.nodes.nodes ≤ l.fn.steps + l.level + 4 * length l.nodes.nodes;
  counts_on : CountsOn l.fn.steps l.steps;
}

abbrev pub decreases-loop-level : goal.decreases-loop-level
decreases-loop-level l = l.level
