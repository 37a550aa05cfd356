use Rattle.counted_tree.specs.Internal.Tree.{height}
use Rattle.counted_tree.specs.Internal.Change.{tree_in}
use Rattle.counted_tree.proofs.insert.path.+insert_first.Given as goal

abbrev pub decreases-insert_first : goal.decreases-insert_first
decreases-insert_first l = height (tree_in l.nodes.now l.link)
