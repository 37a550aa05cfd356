use Rattle.counted_tree.specs.Internal.Tree.{height}
use Rattle.counted_tree.specs.Internal.Change.{tree_in}
use Rattle.counted_tree.proofs.hide.path.+hide_at.Given as goal

abbrev pub decreases-hide_at : goal.decreases-hide_at
decreases-hide_at l = height (tree_in l.nodes.now l.link)
