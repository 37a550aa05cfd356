use Rattle.counted_tree.specs.Internal.Tree.{height}
use Rattle.counted_tree.specs.Internal.Change.{tree_in}
use Rattle.counted_tree.proofs.read.greater.+passed_in.Given as goal

abbrev pub decreases-passed_in : goal.decreases-passed_in
decreases-passed_in l = height (tree_in l.nodes.now l.link)
