use Rattle.std.proofs.Common.{Some, refl, ◌∙◌, subst}
use Rattle.counted_tree.specs.Internal.Change.{tree_in}
use Rattle.counted_tree.specs.Internal.Table.{HasRow}
use Rattle.counted_tree.proofs.NodeTrees.{opened}
use Rattle.counted_tree.proofs.Branches.{read_row, row_there}
use Rattle.counted_tree.proofs.insert.branch.branch_of.Goals as goal

pub bounds-table-elem : goal.bounds-table-elem
bounds-table-elem c =
    let a = c.args.nodes.now in
    let n = c.look-elem.result in
    let o = opened a c.in-Some.at n c.requires.sound c.look-elem.ensures.node in
    let has = subst (λ l. HasRow c.args.table.now (tree_in a l)) c.in-Some.is c.requires.row in
    row_there c.args.table.now (tree_in a (Some c.in-Some.at)) (tree_in a n.left) (tree_in a n.right) n.entry o.tree has

pub returns-clause-branch : goal.returns-clause-branch
returns-clause-branch c =
    let a = c.args.nodes.now in
    let n = c.look-elem.result in
    let o = opened a c.in-Some.at n c.requires.sound c.look-elem.ensures.node in
    let has = subst (λ l. HasRow c.args.table.now (tree_in a l)) c.in-Some.is c.requires.row in
    let row = read_row c.args.table.now (tree_in a (Some c.in-Some.at)) (tree_in a n.left) (tree_in a n.right) n.entry c.get-row.result
    c.index-table-elem.result o.tree has (c.get-row.ensures ∙ c.index-table-elem.is) in
    record {
      link = rw c.in-Some.is at c.requires.link;
      tells = record {
        top = rw o.tree (refl, refl);
        least = row.0;
        height = row.1;
      };
    }
