use Rattle.std.proofs.Common.{◌∙◌, length, Some, None, sym, ap, subst, rules, arith}
use Rattle.counted_tree.specs.declared.insert.level.Grown.{Grown}
use Rattle.counted_tree.specs.Internal.Tree.{entries}
use Rattle.counted_tree.specs.Internal.Change.{tree_in}
use Rattle.counted_tree.specs.Internal.GrownTree.{grown_link, IsTold}
use Rattle.counted_tree.specs.Internal.Branch.{IsBranchOf}
use Rattle.counted_tree.specs.Internal.Table.{Hangs}
use Rattle.counted_tree.proofs.Branches.{branch_small, row_of_branch}
use Rattle.counted_tree.proofs.Newest.{length-put, newest_put, row_of_top}
use Rattle.counted_tree.proofs.Tables.{pointed_again}
use Rattle.counted_tree.proofs.insert.insert_in.Goals as goal

pub hang-requires : goal.hang-requires
hang-requires c =
    let t = tree_in c.args.nodes.now c.args.link in
    let d = c.place-inserted.new.nodes in
    let mid = c.place-inserted.new.table in
    let top = c.in-Loose.top in
    let branch = subst (IsTold d mid None t) c.in-Loose.is c.place-inserted.ensures.told in
    let same = ap (λ (w : Grown). tree_in d (grown_link w)) c.in-Loose.is in
    let lists = ap entries (sym same) ∙ c.place-inserted.ensures.lists in
    let more = ap length lists ∙ length-put c.args.before c.args.entry (entries t) c.requires.there in
    let small = branch_small d top c.place-inserted.ensures.adds.sound branch (omega (arith, more, c.requires.few)) in
    record {
      row = row_of_branch top (tree_in d top.link) (length mid) branch.tells (row_of_top t (tree_in d top.link) c.args.before c.args.entry
          c.args.table.now mid c.requires.own lists (subst (Hangs c.args.table.now mid) same c.place-inserted.ensures.hangs));
      above = search rules;
      least = small.0;
      height = omega (arith, small.1);
    }

pub returns-in-Settled-clause-newest : goal.returns-in-Settled-clause-newest
returns-in-Settled-clause-newest c =
    let t = tree_in c.args.nodes.now c.args.link in
    let d = c.place-inserted.new.nodes in
    let mid = c.place-inserted.new.table in
    let made = tree_in d (Some c.in-Settled.number) in
    let told = subst (IsTold d mid None t) c.in-Settled.is c.place-inserted.ensures.told in
    let same = ap (λ (w : Grown). tree_in d (grown_link w)) c.in-Settled.is in
    newest_put t made c.args.before c.args.entry c.args.table.now mid mid c.requires.own c.requires.each c.requires.there c.requires.number
    c.requires.all (ap entries (sym same) ∙ c.place-inserted.ensures.lists)
    (subst (Hangs c.args.table.now mid) same c.place-inserted.ensures.hangs) (sym (pointed_again made mid None told.1.row))

pub unreachable-requires : goal.unreachable-requires
unreachable-requires c =
    let t = tree_in c.args.nodes.now c.args.link in
    let d = c.place-inserted.new.nodes in
    let same = ap (λ (w : Grown). tree_in d (grown_link w)) c.in-Loose.is ∙ ap (tree_in d) c.in_default.is in
    let lists = ap entries (sym same) ∙ c.place-inserted.ensures.lists in
    omega (arith, ap length lists, length-put c.args.before c.args.entry (entries t) c.requires.there)

pub returns-in-Some-clause-newest : goal.returns-in-Some-clause-newest
returns-in-Some-clause-newest c =
    let t = tree_in c.args.nodes.now c.args.link in
    let d = c.place-inserted.new.nodes in
    let mid = c.place-inserted.new.table in
    let top = c.in-Loose.top in
    let branch = subst (IsTold d mid None t) c.in-Loose.is c.place-inserted.ensures.told in
    let same = ap (λ (w : Grown). tree_in d (grown_link w)) c.in-Loose.is in
    let is = ap (tree_in d) c.in-Some.is in
    newest_put t (tree_in d (Some c.in-Some.number)) c.args.before c.args.entry c.args.table.now mid c.hang.new.table c.requires.own
    c.requires.each c.requires.there c.requires.number c.requires.all (ap entries (sym (same ∙ is)) ∙ c.place-inserted.ensures.lists)
    (subst (Hangs c.args.table.now mid) (same ∙ is) c.place-inserted.ensures.hangs)
    (c.hang.ensures _ (subst (IsBranchOf top) is branch.tells))
