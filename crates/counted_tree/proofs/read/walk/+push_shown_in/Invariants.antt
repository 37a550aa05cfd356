use Rattle.counted_tree.specs.Internal.Tree.{height}
use Rattle.counted_tree.specs.Internal.Change.{tree_in}
use Rattle.counted_tree.proofs.read.walk.+push_shown_in.Given as goal

abbrev pub decreases-push_shown_in : goal.decreases-push_shown_in
decreases-push_shown_in l = height (tree_in l.nodes.now l.link)
