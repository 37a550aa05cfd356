use Rattle.counted_tree.specs.Internal.Tree.{height}
use Rattle.counted_tree.specs.Internal.Change.{tree_in}
use Rattle.counted_tree.proofs.read.greater.+stop_at.Given as goal

abbrev pub decreases-stop_at : goal.decreases-stop_at
decreases-stop_at l = height (tree_in l.nodes.now l.link)
