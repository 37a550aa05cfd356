use Rattle.std.proofs.Common.{arith}
use Rattle.counted_tree.specs.Internal.Change.{tree_in}
use Rattle.counted_tree.proofs.EarlierTrees.{linked_balanced}
use Rattle.counted_tree.proofs.Rotations.{plain_fork}
use Rattle.counted_tree.proofs.insert.rotation.rebuild.Goals as goal

pub returns-else-left-right-clause-rebuilt : goal.returns-else-left-right-clause-rebuilt
returns-else-left-right-clause-rebuilt c =
    let a = c.args.nodes.now in
    rw c.fork.ensures.tree (plain_fork (tree_in a c.args.left.link) (tree_in a c.args.right.link) c.args.entry
    (linked_balanced a.nodes c.args.left.link c.requires.sound c.requires.left.link)
    (linked_balanced a.nodes c.args.right.link c.requires.sound c.requires.right.link) (grind arith, grind arith))
