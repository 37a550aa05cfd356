use Rattle.std.proofs.Common.{◌≡◌, ℕ, ◌∷◌, ◌-◌, ◌<◌, length, Option, Some, ap, ◌∙◌, arith, refl, sym, subst, inl, inr}
use Rattle.std.proofs.lemmas.Bool.{cases_lt}
use Rattle.counted_tree.specs.Internal.Tree.{entries, height}
use Rattle.counted_tree.specs.Internal.Tree.Tree.{Fork}
use Rattle.counted_tree.specs.Internal.Arena.{IsLinkBelow, trees, tree_of}
use Rattle.counted_tree.specs.Internal.Branch.{IsBranchOf}
use Rattle.counted_tree.specs.Internal.Change.{tree_in, DifferByAtMost, IsRebuilt}
use Rattle.counted_tree.specs.Internal.GrownTree.{KeepsRow, IsTold}
use Rattle.counted_tree.specs.Internal.Size.{IsSizeOf}
use Rattle.counted_tree.specs.Internal.Table.{Hangs}
use Rattle.counted_tree.proofs.Branches.{branch_small, read_row, row_of_branch}
use Rattle.counted_tree.proofs.Gains.{gains_left, gains_least}
use Rattle.counted_tree.proofs.EarlierTrees.{linked_balanced}
use Rattle.counted_tree.proofs.GrowthLevels.{grown_left, stays_left}
use Rattle.counted_tree.proofs.Rotations.{plain_fork}
use Rattle.counted_tree.proofs.SettledTrees.{settles_left}
use Rattle.counted_tree.proofs.Tables.{hangs_left_side, own_split, top_below}
use Rattle.counted_tree.proofs.VersionLists.{adds_weaker}
use Rattle.counted_tree.proofs.insert.level.grow_left.Goals as goal

pub returns-then-left-row-clause-grown : goal.returns-then-left-row-clause-grown
returns-then-left-row-clause-grown c =
    let a = c.args.nodes.now in
    let d = c.rebuild.new.nodes in
    let n = c.args.node in
    let e = ap (tree_in a) c.branch_of-right.ensures.link in
    let read : Some c.look-node.result ≡ Some n = sym c.look-node.ensures.node ∙ c.requires.at in
    let again : c.look-node.result ≡ n = cc in
    let p : IsRebuilt (tree_in a c.args.left.link) n.entry (tree_in a n.right) (tree_in d c.rebuild.result.link) =
    rw (e, again) at c.rebuild.ensures.rebuilt in
    λ made g. grown_left (tree_in a n.left) (tree_in a n.right) _ (tree_in d c.rebuild.result.link) n.entry made
    (length d.nodes - length a.nodes) c.requires.node.balanced g p (omega (arith, c.rebuild.ensures.adds.at_most))
    (λ h. omega (arith, c.rebuild.ensures.plain (rw (e, again) h)))

pub hang-requires-clause-row : goal.hang-requires-clause-row
hang-requires-clause-row c =
    let a = c.args.nodes.now in
    let s = tree_in a c.args.left.link in
    let long = length c.args.table.now in
    row_of_branch c.args.left s long c.requires.left.tells (top_below long s
    (own_split long (entries s) (c.args.node.entry ∷ entries (tree_in a c.args.node.right)) c.requires.ready.own).front)

pub hang-requires-clause-least : goal.hang-requires-clause-least
hang-requires-clause-least c =
    (branch_small c.args.nodes.now c.args.left c.requires.sound c.requires.left (omega (arith, c.requires.few))).0

pub hang-requires-clause-height : goal.hang-requires-clause-height
hang-requires-clause-height c =
    let small = branch_small c.args.nodes.now c.args.left c.requires.sound c.requires.left (omega (arith, c.requires.few)) in
    omega (arith, small.1)

pub copy_left-number-requires-clause-balanced : goal.copy_left-number-requires-clause-balanced
copy_left-number-requires-clause-balanced c =
    let a = c.args.nodes.now in
    let n = c.args.node in
    let l = tree_in a n.left in
    let r = tree_in a n.right in
    let s = tree_in a c.args.left.link in
    let row = read_row c.args.table.now (Fork l n.entry r) l r n.entry c.get-row.result c.index-table-node.result refl c.requires.row
    c.get-row.ensures in
    let below : height s < height (Fork l n.entry r) = omega (arith, row.1, c.requires.left.tells.height, c.if-left-row.false) in
    subst (λ (o : Option ℕ). DifferByAtMost 1 (height (tree_in a o)) (height r)) c.in-Some.is
    (stays_left l r s n.entry c.requires.node.balanced c.requires.rises below).0

pub copy_left-number-requires-clause-left : goal.copy_left-number-requires-clause-left
copy_left-number-requires-clause-left c = subst (IsLinkBelow (length c.args.nodes.now.nodes)) c.in-Some.is c.requires.left.link

pub copy_left-number-requires-clause-size : goal.copy_left-number-requires-clause-size
copy_left-number-requires-clause-size c =
    subst (λ (o : Option ℕ). IsSizeOf c.args.left_size (entries (tree_in c.args.nodes.now o))) c.in-Some.is c.requires.size

pub copy_left-number-requires-clause-few : goal.copy_left-number-requires-clause-few
copy_left-number-requires-clause-few c =
    subst (λ (o : Option ℕ). length (entries (tree_in c.args.nodes.now o)) < 131072) c.in-Some.is (omega (arith, c.requires.few))

pub returns : goal.returns
returns c =
    let a = c.args.nodes.now in
    let d = c.copy_left-number.new.nodes in
    let n = c.args.node in
    let l = tree_in a n.left in
    let r = tree_in a n.right in
    let s = tree_in a c.args.left.link in
    let old = c.args.table.now in
    let new = c.hang.new.table in
    let key = c.args.entry.now.key in
    let row = read_row old (Fork l n.entry r) l r n.entry c.get-row.result c.index-table-node.result refl c.requires.row
    c.get-row.ensures in
    let below : height s < height (Fork l n.entry r) = omega (arith, row.1, c.requires.left.tells.height, c.if-left-row.false) in
    let stays = stays_left l r s n.entry c.requires.node.balanced c.requires.rises below in
    let p = plain_fork s r n.entry (linked_balanced a.nodes c.args.left.link c.requires.sound c.requires.left.link)
    c.requires.node.balanced.1 stays.0 in
    let one : length d.nodes - length a.nodes ≡ 1 = omega (arith, c.copy_left-number.ensures.count) in
    let least = gains_least c.args.entry.now (entries (Fork l n.entry r)) (entries (Fork s n.entry r))
    (gains_left c.args.entry.now n.entry (entries l) (entries s) (entries r) c.requires.gains) in
    let is = c.copy_left-number.ensures.tree ∙ ap (λ (o : Option ℕ). Fork (tree_in a o) n.entry r) (sym c.in-Some.is) in
    let tree = ap (tree_in d) c.settle.ensures.link ∙ is in
    let hung = c.hang.ensures s c.requires.left.tells in
    record {
      adds = adds_weaker _ _ 1 3 (omega arith) c.copy_left-number.ensures.adds;
      told = λ o there. elim (cases_lt key c.get-row.result.least) [
        | inl lt ↦
            let over : IsBranchOf _ (Fork s n.entry r) =
            record { top = (refl, refl); least = omega (arith, lt, row.0, least); height = omega (arith, row.1, stays.1) } in
            subst (IsTold d new o (tree_of (trees a.nodes) n)) (sym (c.settle.ensures.loose lt))
            (record { link = c.copy_left-number.ensures.number; tells = subst (IsBranchOf _) (sym is) over })
        | inr le ↦
            let over = settles_left old new o _ l s r n.entry c.requires.ready hung stays.1 (omega (arith, le, row.0, least)) there in
            subst (IsTold d new o (tree_of (trees a.nodes) n)) (sym (c.settle.ensures.settled le))
            (c.copy_left-number.ensures.number, subst (KeepsRow new o (tree_of (trees a.nodes) n)) (sym is) over)
      ];
      lists = ap entries tree;
      grown = λ made g. grown_left l r s _ n.entry made (length d.nodes - length a.nodes) c.requires.node.balanced g
          (subst (IsRebuilt s n.entry r) (sym tree) p) (omega (arith, one)) (λ _. one);
      hangs = subst (Hangs old new) (sym tree) (hangs_left_side s r n.entry old new c.requires.ready c.requires.other hung);
      cost = omega (arith, c.copy_left-number.ensures.count);
      counts_on = omega arith;
    }
