use Rattle.std.proofs.Common.{Some, sym, subst}
use Rattle.counted_tree.specs.declared.insert.level.Grown.{Grown}
use Rattle.counted_tree.specs.Internal.Arena.{trees, tree_of}
use Rattle.counted_tree.specs.Internal.Change.{tree_in}
use Rattle.counted_tree.specs.Internal.Growth.{IsGrown}
use Rattle.counted_tree.specs.Internal.GrownTree.{grown_link, KeepsRow, IsTold}
use Rattle.counted_tree.proofs.SettledTrees.{settled_right}
use Rattle.counted_tree.proofs.insert.level.lift_right.Goals as goal

pub returns-in-Settled-clause-told : goal.returns-in-Settled-clause-told
returns-in-Settled-clause-told c =
    let a = c.args.nodes.now in
    let n = c.args.node in
    let made = c.copy_right-top.ensures in
    let side = subst (IsTold a c.args.table.now _ (tree_in a n.right)) c.in-Settled.is c.requires.right in
    λ o there. (
      made.number,
      subst (KeepsRow c.args.table.now o (tree_of (trees a.nodes) n)) (sym made.tree)
          (settled_right c.args.table.now o _ (tree_in a n.left) (tree_in a n.right) (tree_in a (Some c.in-Settled.number))
          n.entry side.1 there),
    )

pub returns-in-Loose-clause-grown : goal.returns-in-Loose-clause-grown
returns-in-Loose-clause-grown c =
    let a = c.args.nodes.now in
    λ made g. c.grow_right.ensures.grown made
    (subst (λ (w : Grown). IsGrown (tree_in a c.args.node.right) (tree_in a (grown_link w)) made) c.in-Loose.is g)
