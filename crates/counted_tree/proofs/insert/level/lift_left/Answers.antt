use Rattle.std.proofs.Common.{true, false, Some, ap, arith, sym, subst}
use Rattle.counted_tree.specs.declared.insert.level.Grown.{Grown}
use Rattle.counted_tree.specs.declared.size.Size.{Size}
use Rattle.counted_tree.specs.Internal.Tree.{entries}
use Rattle.counted_tree.specs.Internal.Arena.{trees, tree_of}
use Rattle.counted_tree.specs.Internal.Change.{tree_in}
use Rattle.counted_tree.specs.Internal.Growth.{IsGrown}
use Rattle.counted_tree.specs.Internal.GrownTree.{grown_link, KeepsRow, IsTold}
use Rattle.counted_tree.proofs.Counts.{two_at_most}
use Rattle.counted_tree.proofs.Gains.{gains_one}
use Rattle.counted_tree.proofs.SettledTrees.{settled_left}
use Rattle.counted_tree.proofs.Sizes.{size_few}
use Rattle.counted_tree.proofs.insert.level.lift_left.Goals as goal

pub plus-left_size-requires : goal.plus-left_size-requires
plus-left_size-requires c =
    let l = entries (tree_in c.args.nodes.now c.args.node.left) in
    let few = size_few c.args.node.left_size l c.requires.node.left_size in
    let more = gains_one c.args.entry.now l _ c.requires.gains in
    let shown = ap (λ (s : Size). s.shown) c.of.ensures in
    let units = ap (λ (s : Size). s.units) c.of.ensures in
    record {
      shown = omega (arith, few.0, shown, two_at_most false c.args.entry.now, more, c.requires.few);
      units = omega (arith, few.1, units, two_at_most true c.args.entry.now, more, c.requires.few);
    }

pub returns-in-Settled-clause-told : goal.returns-in-Settled-clause-told
returns-in-Settled-clause-told c =
    let a = c.args.nodes.now in
    let n = c.args.node in
    let made = c.copy_left-top.ensures in
    let side = subst (IsTold a c.args.table.now _ (tree_in a n.left)) c.in-Settled.is c.requires.left in
    λ o there. (
      made.number,
      subst (KeepsRow c.args.table.now o (tree_of (trees a.nodes) n)) (sym made.tree)
          (settled_left c.args.table.now o _ (tree_in a n.left) (tree_in a (Some c.in-Settled.number)) (tree_in a n.right)
          n.entry side.1 there),
    )

pub returns-in-Loose-clause-grown : goal.returns-in-Loose-clause-grown
returns-in-Loose-clause-grown c =
    let a = c.args.nodes.now in
    λ made g. c.grow_left.ensures.grown made
    (subst (λ (w : Grown). IsGrown (tree_in a c.args.node.left) (tree_in a (grown_link w)) made) c.in-Loose.is g)
