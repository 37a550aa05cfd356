use Rattle.std.proofs.Common.{◌∷◌, ◌<◌, length, Some, sym, subst}
use Rattle.counted_tree.specs.declared.kept.side.Side.TheVariants.{Right}
use Rattle.counted_tree.specs.Internal.Tree.{entries}
use Rattle.counted_tree.specs.Internal.Change.{tree_in}
use Rattle.counted_tree.specs.Internal.Insertion.{IsInserted, IsLift}
use Rattle.counted_tree.proofs.Lifts.{below_right, lift_node, lift_up_left, lift_up_right, lifted_left, lifted_right, own_right}
use Rattle.counted_tree.proofs.Ranks.{rank_small}
use Rattle.counted_tree.proofs.insert.path.lift.Goals as goal

pub lift_left-top-requires-clause-node : goal.lift_left-top-requires-clause-node
lift_left-top-requires-clause-node c =
    let w = c.requires in
    let b = c.args.nodes.now in
    let mid = c.args.table.now in
    let x = c.args.entry.now in
    let n = c.look-node.result in
    let h = subst (λ s. IsLift w.0 b w.1 mid c.args.at s w.2 x c.args.below) c.in-Left.is w.3 in
    (lift_up_left w.0 b w.1 mid c.args.at w.2 x c.args.below n h c.look-node.ensures.node).node

pub lift_left-top-requires-clause-left : goal.lift_left-top-requires-clause-left
lift_left-top-requires-clause-left c =
    let w = c.requires in
    let b = c.args.nodes.now in
    let mid = c.args.table.now in
    let x = c.args.entry.now in
    let n = c.look-node.result in
    let h = subst (λ s. IsLift w.0 b w.1 mid c.args.at s w.2 x c.args.below) c.in-Left.is w.3 in
    (lift_up_left w.0 b w.1 mid c.args.at w.2 x c.args.below n h c.look-node.ensures.node).told

pub lift_left-top-requires-clause-gains : goal.lift_left-top-requires-clause-gains
lift_left-top-requires-clause-gains c =
    let w = c.requires in
    let b = c.args.nodes.now in
    let mid = c.args.table.now in
    let x = c.args.entry.now in
    let n = c.look-node.result in
    let h = subst (λ s. IsLift w.0 b w.1 mid c.args.at s w.2 x c.args.below) c.in-Left.is w.3 in
    (lift_up_left w.0 b w.1 mid c.args.at w.2 x c.args.below n h c.look-node.ensures.node).gains

pub lift_left-top-requires-clause-rises : goal.lift_left-top-requires-clause-rises
lift_left-top-requires-clause-rises c =
    let w = c.requires in
    let b = c.args.nodes.now in
    let mid = c.args.table.now in
    let x = c.args.entry.now in
    let n = c.look-node.result in
    let h = subst (λ s. IsLift w.0 b w.1 mid c.args.at s w.2 x c.args.below) c.in-Left.is w.3 in
    (lift_up_left w.0 b w.1 mid c.args.at w.2 x c.args.below n h c.look-node.ensures.node).rises

pub lift_left-top-requires-clause-few : goal.lift_left-top-requires-clause-few
lift_left-top-requires-clause-few c =
    let w = c.requires in
    let b = c.args.nodes.now in
    let mid = c.args.table.now in
    let x = c.args.entry.now in
    let n = c.look-node.result in
    let h = subst (λ s. IsLift w.0 b w.1 mid c.args.at s w.2 x c.args.below) c.in-Left.is w.3 in
    (lift_up_left w.0 b w.1 mid c.args.at w.2 x c.args.below n h c.look-node.ensures.node).few

pub lift_left-top-requires-clause-row : goal.lift_left-top-requires-clause-row
lift_left-top-requires-clause-row c =
    let w = c.requires in
    let b = c.args.nodes.now in
    let mid = c.args.table.now in
    let x = c.args.entry.now in
    let n = c.look-node.result in
    let h = subst (λ s. IsLift w.0 b w.1 mid c.args.at s w.2 x c.args.below) c.in-Left.is w.3 in
    (lift_up_left w.0 b w.1 mid c.args.at w.2 x c.args.below n h c.look-node.ensures.node).row

pub lift_left-top-requires-clause-other : goal.lift_left-top-requires-clause-other
lift_left-top-requires-clause-other c =
    let w = c.requires in
    let b = c.args.nodes.now in
    let mid = c.args.table.now in
    let x = c.args.entry.now in
    let n = c.look-node.result in
    let h = subst (λ s. IsLift w.0 b w.1 mid c.args.at s w.2 x c.args.below) c.in-Left.is w.3 in
    (lift_up_left w.0 b w.1 mid c.args.at w.2 x c.args.below n h c.look-node.ensures.node).other

pub lift_left-top-requires-clause-ready : goal.lift_left-top-requires-clause-ready
lift_left-top-requires-clause-ready c =
    let w = c.requires in
    let b = c.args.nodes.now in
    let mid = c.args.table.now in
    let x = c.args.entry.now in
    let n = c.look-node.result in
    let h = subst (λ s. IsLift w.0 b w.1 mid c.args.at s w.2 x c.args.below) c.in-Left.is w.3 in
    (lift_up_left w.0 b w.1 mid c.args.at w.2 x c.args.below n h c.look-node.ensures.node).ready

pub lift_right-top-requires-clause-node : goal.lift_right-top-requires-clause-node
lift_right-top-requires-clause-node c =
    let w = c.requires in
    let b = c.args.nodes.now in
    let mid = c.args.table.now in
    let x = c.args.entry.now in
    let n = c.look-node.result in
    let h = subst (λ s. IsLift w.0 b w.1 mid c.args.at s w.2 x c.args.below) c.in-Right.is w.3 in
    (lift_up_right w.0 b w.1 mid c.args.at w.2 x c.args.below n h c.look-node.ensures.node).node

pub lift_right-top-requires-clause-right : goal.lift_right-top-requires-clause-right
lift_right-top-requires-clause-right c =
    let w = c.requires in
    let b = c.args.nodes.now in
    let mid = c.args.table.now in
    let x = c.args.entry.now in
    let n = c.look-node.result in
    let h = subst (λ s. IsLift w.0 b w.1 mid c.args.at s w.2 x c.args.below) c.in-Right.is w.3 in
    (lift_up_right w.0 b w.1 mid c.args.at w.2 x c.args.below n h c.look-node.ensures.node).told

pub lift_right-top-requires-clause-gains : goal.lift_right-top-requires-clause-gains
lift_right-top-requires-clause-gains c =
    let w = c.requires in
    let b = c.args.nodes.now in
    let mid = c.args.table.now in
    let x = c.args.entry.now in
    let n = c.look-node.result in
    let h = subst (λ s. IsLift w.0 b w.1 mid c.args.at s w.2 x c.args.below) c.in-Right.is w.3 in
    (lift_up_right w.0 b w.1 mid c.args.at w.2 x c.args.below n h c.look-node.ensures.node).gains

pub lift_right-top-requires-clause-rises : goal.lift_right-top-requires-clause-rises
lift_right-top-requires-clause-rises c =
    let w = c.requires in
    let b = c.args.nodes.now in
    let mid = c.args.table.now in
    let x = c.args.entry.now in
    let n = c.look-node.result in
    let h = subst (λ s. IsLift w.0 b w.1 mid c.args.at s w.2 x c.args.below) c.in-Right.is w.3 in
    (lift_up_right w.0 b w.1 mid c.args.at w.2 x c.args.below n h c.look-node.ensures.node).rises

pub lift_right-top-requires-clause-few : goal.lift_right-top-requires-clause-few
lift_right-top-requires-clause-few c =
    let w = c.requires in
    let b = c.args.nodes.now in
    let mid = c.args.table.now in
    let x = c.args.entry.now in
    let n = c.look-node.result in
    let h = subst (λ s. IsLift w.0 b w.1 mid c.args.at s w.2 x c.args.below) c.in-Right.is w.3 in
    (lift_up_right w.0 b w.1 mid c.args.at w.2 x c.args.below n h c.look-node.ensures.node).few

pub lift_right-top-requires-clause-row : goal.lift_right-top-requires-clause-row
lift_right-top-requires-clause-row c =
    let w = c.requires in
    let b = c.args.nodes.now in
    let mid = c.args.table.now in
    let x = c.args.entry.now in
    let n = c.look-node.result in
    let h = subst (λ s. IsLift w.0 b w.1 mid c.args.at s w.2 x c.args.below) c.in-Right.is w.3 in
    (lift_up_right w.0 b w.1 mid c.args.at w.2 x c.args.below n h c.look-node.ensures.node).row

pub lift_right-top-requires-clause-other : goal.lift_right-top-requires-clause-other
lift_right-top-requires-clause-other c =
    let w = c.requires in
    let b = c.args.nodes.now in
    let mid = c.args.table.now in
    let x = c.args.entry.now in
    let n = c.look-node.result in
    let h = subst (λ s. IsLift w.0 b w.1 mid c.args.at s w.2 x c.args.below) c.in-Right.is w.3 in
    (lift_up_right w.0 b w.1 mid c.args.at w.2 x c.args.below n h c.look-node.ensures.node).other

pub lift_right-top-requires-clause-ready : goal.lift_right-top-requires-clause-ready
lift_right-top-requires-clause-ready c =
    let w = c.requires in
    let b = c.args.nodes.now in
    let mid = c.args.table.now in
    let x = c.args.entry.now in
    let n = c.look-node.result in
    let h = subst (λ s. IsLift w.0 b w.1 mid c.args.at s w.2 x c.args.below) c.in-Right.is w.3 in
    (lift_up_right w.0 b w.1 mid c.args.at w.2 x c.args.below n h c.look-node.ensures.node).ready

pub through-rank-requires : goal.through-rank-requires
through-rank-requires c =
    let w = c.requires in
    let b = c.args.nodes.now in
    let mid = c.args.table.now in
    let x = c.args.entry.now in
    let n = c.look-node.result in
    let h = subst (λ s. IsLift w.0 b w.1 mid c.args.at s w.2 x c.args.below) c.in-Right.is w.3 in
    let r = lift_node w.0 b w.1 mid c.args.at Right w.2 x c.args.below n h c.look-node.ensures.node in
    let made = below_right w.0 b w.1 mid c.args.at w.2 x c.args.below n h c.look-node.ensures.node in
    let own = own_right w.0 b w.1 mid c.args.at w.2 x c.args.below n h c.look-node.ensures.node in
    let small = rank_small (length w.1) (tree_in w.0 n.left) (tree_in w.0 n.right) n.entry x w.2 n.left_size c.args.below.rank own
    (subst (λ u. length (entries u) < 131072) r.tree h.fit.few) r.sound.left_size made.rank in
    record { shown = small.0; units = small.1 }

pub returns-in-Left-clause-inserted : goal.returns-in-Left-clause-inserted
returns-in-Left-clause-inserted c = λ a tb path given.
    let b = c.args.nodes.now in
    let mid = c.args.table.now in
    let x = c.args.entry.now in
    let h = subst (λ s. IsLift a b tb mid c.args.at s path x c.args.below) c.in-Left.is given in
    let p = c.lift_left-top.ensures in
    subst (λ s. IsInserted a c.lift_left-top.new.nodes tb c.lift_left-top.new.table (tree_in a (Some c.args.at)) (s ∷ path) x
    (record { top = c.lift_left-top.result; rank = c.args.below.rank })) (sym c.in-Left.is)
    (lifted_left a b tb mid c.args.at path x c.args.below c.look-node.result h c.look-node.ensures.node c.lift_left-top.new.nodes
    c.lift_left-top.new.table c.lift_left-top.result p.adds p.told p.lists p.grown p.hangs)

pub returns-in-Right-clause-inserted : goal.returns-in-Right-clause-inserted
returns-in-Right-clause-inserted c = λ a tb path given.
    let b = c.args.nodes.now in
    let mid = c.args.table.now in
    let x = c.args.entry.now in
    let h = subst (λ s. IsLift a b tb mid c.args.at s path x c.args.below) c.in-Right.is given in
    let p = c.lift_right-top.ensures in
    subst (λ s. IsInserted a c.lift_right-top.new.nodes tb c.lift_right-top.new.table (tree_in a (Some c.args.at)) (s ∷ path) x
    (record { top = c.lift_right-top.result; rank = c.through-rank.result })) (sym c.in-Right.is)
    (lifted_right a b tb mid c.args.at path x c.args.below c.look-node.result h c.look-node.ensures.node c.lift_right-top.new.nodes
    c.lift_right-top.new.table c.lift_right-top.result c.through-rank.result c.through-rank.ensures p.adds p.told p.lists p.grown p.hangs)
