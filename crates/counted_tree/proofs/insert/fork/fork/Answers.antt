use Rattle.std.proofs.Common.{◌+◌, ◌<◌, length, refl, subst, sym, ap, ◌∷◌, ◌∙◌, arith}
use Rattle.std.specs.Option.{IfSome}
use Rattle.counted_tree.specs.Internal.Tree.{entries}
use Rattle.counted_tree.specs.Internal.Change.{tree_in}
use Rattle.counted_tree.specs.Internal.Branch.{IsBranchOf}
use Rattle.counted_tree.proofs.Tables.{hangs_fork, own_split, top_below, length-pointed}
use Rattle.counted_tree.proofs.Branches.{branch_over, branch_small, row_of_branch}
use Rattle.counted_tree.proofs.EarlierTrees.{linked_balanced}
use Rattle.counted_tree.proofs.NodeAdditions.{sound_node}
use Rattle.counted_tree.proofs.insert.fork.fork.Goals as goal

pub hang-requires : goal.hang-requires
hang-requires c =
    let a = c.args.nodes.now in
    let l = tree_in a c.args.left.link in
    let r = tree_in a c.args.right.link in
    let small = branch_small a c.args.left c.requires.sound c.requires.left (omega (arith, c.requires.few)) in
    record {
      row = row_of_branch c.args.left l (length c.args.table.now) c.requires.left.tells (top_below (length c.args.table.now) l
          (own_split (length c.args.table.now) (entries l) (c.args.entry ∷ entries r) c.requires.ready.own).front);
      above = c.requires.known.0.0;
      least = small.0;
      height = omega (arith, small.1);
    }

pub hang-requires-2 : goal.hang-requires-2
hang-requires-2 c =
    let a = c.args.nodes.now in
    let l = tree_in a c.args.left.link in
    let r = tree_in a c.args.right.link in
    let long = ap length (c.hang.ensures l c.requires.left.tells) ∙ length-pointed l c.args.table.now _ in
    let row = row_of_branch c.args.right r (length c.args.table.now) c.requires.right.tells (top_below (length c.args.table.now) r
    (own_split (length c.args.table.now) (entries l) (c.args.entry ∷ entries r) c.requires.ready.own).back.2) in
    let small = branch_small a c.args.right c.requires.sound c.requires.right (omega (arith, c.requires.few)) in
    record {
      row = subst (λ n. IfSome c.args.right.link (λ _. c.args.right.elem < n)) (sym long) row;
      above = c.requires.known.0.0;
      least = small.0;
      height = omega (arith, small.1);
    }

pub append-number-requires-clause-node : goal.append-number-requires-clause-node
append-number-requires-clause-node c =
    let a = c.args.nodes.now in
    let l = c.args.left in
    let r = c.args.right in
    sound_node a _ c.requires.left.link c.requires.right.link c.requires.size c.requires.known.0 (
      linked_balanced a.nodes l.link c.requires.sound c.requires.left.link,
      linked_balanced a.nodes r.link c.requires.sound c.requires.right.link,
      c.requires.balanced.0,
      c.requires.balanced.1,
    )

pub overflow_add-result : goal.overflow_add-result
overflow_add-result c =
    let a = c.args.nodes.now in
    let l = branch_small a c.args.left c.requires.sound c.requires.left (omega (arith, c.requires.few)) in
    let r = branch_small a c.args.right c.requires.sound c.requires.right (omega (arith, c.requires.few)) in
    grind (arith, l.1, r.1)

pub returns-clause-branch : goal.returns-clause-branch
returns-clause-branch c =
    let a = c.args.nodes.now in
    let l = c.args.left in
    let r = c.args.right in
    let over = branch_over l r c.args.entry c.min-2.result (c.max.result + 1) c.append-number.result (tree_in a l.link) (tree_in a r.link)
    c.requires.left.tells c.requires.right.tells (grind arith) (grind arith) in
    record {
      link = c.append-number.ensures.number;
      tells = subst (IsBranchOf _) (sym c.append-number.ensures.tree) over;
    }

pub returns-clause-hangs : goal.returns-clause-hangs
returns-clause-hangs c =
    let a = c.args.nodes.now in
    let l = tree_in a c.args.left.link in
    let r = tree_in a c.args.right.link in
    hangs_fork l r c.args.entry c.args.table.now c.hang.new.table c.hang-2.new.table _ _ refl refl c.requires.ready
    (c.hang.ensures l c.requires.left.tells) (c.hang-2.ensures r c.requires.right.tells)
