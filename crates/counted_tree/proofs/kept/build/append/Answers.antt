use Rattle.std.proofs.Common.{arith}
use Rattle.counted_tree.specs.Internal.Tree.{entries}
use Rattle.counted_tree.specs.Internal.Change.{tree_in}
use Rattle.counted_tree.proofs.EarlierTrees.{link_later, length-trees}
use Rattle.counted_tree.proofs.Counts.{units_few}
use Rattle.counted_tree.proofs.Sizes.{size_few}
use Rattle.counted_tree.proofs.NodeAdditions.{adds_push, tree_pushed}
use Rattle.counted_tree.proofs.kept.build.append.Goals as goal

pub push-requires-clause-left : goal.push-requires-clause-left
push-requires-clause-left c =
    let ns = c.args.nodes.now.nodes in
    link_later _ _ c.args.node.left (omega (arith, length-trees ns)) c.requires.node.left_earlier

pub push-requires-clause-right : goal.push-requires-clause-right
push-requires-clause-right c =
    let ns = c.args.nodes.now.nodes in
    link_later _ _ c.args.node.right (omega (arith, length-trees ns)) c.requires.node.right_earlier

pub push-requires-clause-shown : goal.push-requires-clause-shown
push-requires-clause-shown c =
    let n = c.args.node in
    let few = size_few n.left_size (entries (tree_in c.args.nodes.now n.left)) c.requires.node.left_size in
    omega (arith, few.0, c.requires.few)

pub push-requires-clause-units : goal.push-requires-clause-units
push-requires-clause-units c =
    let n = c.args.node in
    let some = units_few (entries (tree_in c.args.nodes.now n.left)) in
    omega (arith, some.0, c.requires.node.left_size)

pub push-requires-clause-wide : goal.push-requires-clause-wide
push-requires-clause-wide c =
    let n = c.args.node in
    let few = size_few n.left_size (entries (tree_in c.args.nodes.now n.left)) c.requires.node.left_size in
    let some = units_few (entries (tree_in c.args.nodes.now n.left)) in
    omega (arith, few.0, some.1, c.requires.node.left_size, c.requires.few)

pub returns-clause-adds : goal.returns-clause-adds
returns-clause-adds c =
    adds_push c.args.nodes.now c.push.new.self c.args.node c.requires.sound c.requires.node c.push.ensures.nodes c.push.ensures.reserved
    c.push.ensures.keys_and_widths c.push.ensures.reserved_keys_and_widths

pub returns-clause-tree : goal.returns-clause-tree
returns-clause-tree c = tree_pushed c.args.nodes.now c.push.new.self _ c.push.result c.push.ensures.nodes c.push.ensures.number
