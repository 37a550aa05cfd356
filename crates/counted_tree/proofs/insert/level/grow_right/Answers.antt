use Rattle.std.proofs.Common.{◌≡◌, ℕ, ◌∷◌, ◌-◌, ◌<◌, length, Option, Some, ap, ◌∙◌, arith, refl, sym, subst, inl, inr}
use Rattle.std.proofs.lemmas.Bool.{cases_lt}
use Rattle.counted_tree.specs.Internal.Tree.{entries, height}
use Rattle.counted_tree.specs.Internal.Tree.Tree.{Fork}
use Rattle.counted_tree.specs.Internal.Arena.{IsLinkBelow, trees, tree_of}
use Rattle.counted_tree.specs.Internal.Branch.{IsBranchOf}
use Rattle.counted_tree.specs.Internal.Change.{tree_in, DifferByAtMost, IsRebuilt}
use Rattle.counted_tree.specs.Internal.GrownTree.{KeepsRow, IsTold}
use Rattle.counted_tree.specs.Internal.Table.{Hangs}
use Rattle.counted_tree.proofs.Branches.{branch_small, read_row, row_of_branch}
use Rattle.counted_tree.proofs.Gains.{gains_right, gains_least}
use Rattle.counted_tree.proofs.EarlierTrees.{linked_balanced}
use Rattle.counted_tree.proofs.GrowthLevels.{grown_right, stays_right}
use Rattle.counted_tree.proofs.Rotations.{plain_fork}
use Rattle.counted_tree.proofs.SettledTrees.{settles_right}
use Rattle.counted_tree.proofs.Tables.{hangs_right_side, own_split, top_below}
use Rattle.counted_tree.proofs.VersionLists.{adds_weaker}
use Rattle.counted_tree.proofs.insert.level.grow_right.Goals as goal

pub returns-then-right-row-clause-grown : goal.returns-then-right-row-clause-grown
returns-then-right-row-clause-grown c =
    let a = c.args.nodes.now in
    let d = c.rebuild.new.nodes in
    let n = c.args.node in
    let e = ap (tree_in a) c.branch_of-left.ensures.link in
    let read : Some c.look-node.result ≡ Some n = sym c.look-node.ensures.node ∙ c.requires.at in
    let again : c.look-node.result ≡ n = cc in
    let p : IsRebuilt (tree_in a n.left) n.entry (tree_in a c.args.right.link) (tree_in d c.rebuild.result.link) =
    rw (e, again) at c.rebuild.ensures.rebuilt in
    λ made g. grown_right (tree_in a n.left) (tree_in a n.right) _ (tree_in d c.rebuild.result.link) n.entry made
    (length d.nodes - length a.nodes) c.requires.node.balanced g p (omega (arith, c.rebuild.ensures.adds.at_most))
    (λ h. omega (arith, c.rebuild.ensures.plain (rw (e, again) h)))

pub hang-requires-clause-row : goal.hang-requires-clause-row
hang-requires-clause-row c =
    let a = c.args.nodes.now in
    let s = tree_in a c.args.right.link in
    let long = length c.args.table.now in
    row_of_branch c.args.right s long c.requires.right.tells (top_below long s
    (own_split long (entries (tree_in a c.args.node.left)) (c.args.node.entry ∷ entries s) c.requires.ready.own).back.2)

pub hang-requires-clause-least : goal.hang-requires-clause-least
hang-requires-clause-least c =
    (branch_small c.args.nodes.now c.args.right c.requires.sound c.requires.right (omega (arith, c.requires.few))).0

pub hang-requires-clause-height : goal.hang-requires-clause-height
hang-requires-clause-height c =
    let small = branch_small c.args.nodes.now c.args.right c.requires.sound c.requires.right (omega (arith, c.requires.few)) in
    omega (arith, small.1)

pub copy_right-number-requires-clause-balanced : goal.copy_right-number-requires-clause-balanced
copy_right-number-requires-clause-balanced c =
    let a = c.args.nodes.now in
    let n = c.args.node in
    let l = tree_in a n.left in
    let r = tree_in a n.right in
    let s = tree_in a c.args.right.link in
    let row = read_row c.args.table.now (Fork l n.entry r) l r n.entry c.get-row.result c.index-table-node.result refl c.requires.row
    c.get-row.ensures in
    let below : height s < height (Fork l n.entry r) = omega (arith, row.1, c.requires.right.tells.height, c.if-right-row.false) in
    subst (λ (o : Option ℕ). DifferByAtMost 1 (height l) (height (tree_in a o))) c.in-Some.is
    (stays_right l r s n.entry c.requires.node.balanced c.requires.rises below).0

pub copy_right-number-requires-clause-right : goal.copy_right-number-requires-clause-right
copy_right-number-requires-clause-right c = subst (IsLinkBelow (length c.args.nodes.now.nodes)) c.in-Some.is c.requires.right.link

pub returns : goal.returns
returns c =
    let a = c.args.nodes.now in
    let d = c.copy_right-number.new.nodes in
    let n = c.args.node in
    let l = tree_in a n.left in
    let r = tree_in a n.right in
    let s = tree_in a c.args.right.link in
    let old = c.args.table.now in
    let new = c.hang.new.table in
    let key = c.args.entry.now.key in
    let row = read_row old (Fork l n.entry r) l r n.entry c.get-row.result c.index-table-node.result refl c.requires.row
    c.get-row.ensures in
    let below : height s < height (Fork l n.entry r) = omega (arith, row.1, c.requires.right.tells.height, c.if-right-row.false) in
    let stays = stays_right l r s n.entry c.requires.node.balanced c.requires.rises below in
    let p = plain_fork l s n.entry c.requires.node.balanced.0
    (linked_balanced a.nodes c.args.right.link c.requires.sound c.requires.right.link) stays.0 in
    let one : length d.nodes - length a.nodes ≡ 1 = omega (arith, c.copy_right-number.ensures.count) in
    let least = gains_least c.args.entry.now (entries (Fork l n.entry r)) (entries (Fork l n.entry s))
    (gains_right c.args.entry.now n.entry (entries r) (entries s) (entries l) c.requires.gains) in
    let is = c.copy_right-number.ensures.tree ∙ ap (λ (o : Option ℕ). Fork l n.entry (tree_in a o)) (sym c.in-Some.is) in
    let tree = ap (tree_in d) c.settle.ensures.link ∙ is in
    let hung = c.hang.ensures s c.requires.right.tells in
    record {
      adds = adds_weaker _ _ 1 3 (omega arith) c.copy_right-number.ensures.adds;
      told = λ o there. elim (cases_lt key c.get-row.result.least) [
        | inl lt ↦
            let over : IsBranchOf _ (Fork l n.entry s) =
            record { top = (refl, refl); least = omega (arith, lt, row.0, least); height = omega (arith, row.1, stays.1) } in
            subst (IsTold d new o (tree_of (trees a.nodes) n)) (sym (c.settle.ensures.loose lt))
            (record { link = c.copy_right-number.ensures.number; tells = subst (IsBranchOf _) (sym is) over })
        | inr le ↦
            let over = settles_right old new o _ l r s n.entry c.requires.ready hung stays.1 (omega (arith, le, row.0, least)) there in
            subst (IsTold d new o (tree_of (trees a.nodes) n)) (sym (c.settle.ensures.settled le))
            (c.copy_right-number.ensures.number, subst (KeepsRow new o (tree_of (trees a.nodes) n)) (sym is) over)
      ];
      lists = ap entries tree;
      grown = λ made g. grown_right l r s _ n.entry made (length d.nodes - length a.nodes) c.requires.node.balanced g
          (subst (IsRebuilt l n.entry s) (sym tree) p) (omega (arith, one)) (λ _. one);
      hangs = subst (Hangs old new) (sym tree) (hangs_right_side l s n.entry old new c.requires.ready c.requires.other hung);
      cost = omega (arith, c.copy_right-number.ensures.count);
      counts_on = omega arith;
    }
