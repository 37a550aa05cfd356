use Rattle.std.proofs.Common.{arith}
use Rattle.counted_tree.proofs.NodeTrees.{opened}
use Rattle.counted_tree.proofs.kept.build.look.Goals as goal

pub returns : goal.returns
returns c =
    let o = opened c.args.nodes.now c.args.at c.look.result c.requires.sound c.look.ensures.node in
    record {
      left = o.left;
      right = o.right;
      tree = o.tree;
      balanced = o.balanced;
      known = (o.small, c.look.ensures.told);
      size = o.size;
      node = c.look.ensures.node;
      step = c.look.ensures.step;
      cost = omega (arith, c.look.ensures.step);
    }
