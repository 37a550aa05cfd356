use Rattle.counted_tree.specs.Internal.Tree.{height}
use Rattle.counted_tree.specs.Internal.Change.{tree_in}
use Rattle.counted_tree.proofs.read.rank.+rank_at.Given as goal

abbrev pub decreases-rank_at : goal.decreases-rank_at
decreases-rank_at l = height (tree_in l.nodes.now l.link)
