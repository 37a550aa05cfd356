use Rattle.std.proofs.Common.{◌≡◌, ◌<◌, length, sym, ap, ◌∙◌, subst}
use Rattle.std.specs.Prelude.{◌^◌}
use Rattle.counted_tree.specs.Internal.Arena.{IsLinkBelow}
use Rattle.counted_tree.specs.Internal.Keys.{least_key}
use Rattle.counted_tree.specs.Internal.Tree.{entries}
use Rattle.counted_tree.specs.Internal.Change.{tree_in}
use Rattle.counted_tree.proofs.Branches.{read_row, row_there}
use Rattle.counted_tree.proofs.Passes.{by_least, least_small}
use Rattle.counted_tree.proofs.read.greater.are_greater.Goals as goal

pub bounds-table-node : goal.bounds-table-node
bounds-table-node c =
    let a = c.args.nodes.now in
    let n = c.look-node.result in
    row_there c.args.table.now (tree_in a c.args.link) (tree_in a n.left) (tree_in a n.right) n.entry
    (ap (tree_in a) c.in-Some.is ∙ c.look-node.ensures.tree) c.requires.row

pub returns-clause-greater : goal.returns-clause-greater
returns-clause-greater c =
    let a = c.args.nodes.now in
    let t = tree_in a c.args.link in
    let n = c.look-node.result in
    let below = subst (IsLinkBelow (length a.nodes)) c.in-Some.is c.requires.link in
    let small : least_key (entries t) < 2 ^ 23 = subst (λ l. least_key (entries (tree_in a l)) < 2 ^ 23) (sym c.in-Some.is)
    (least_small a c.in-Some.at c.requires.sound below) in
    let row = read_row c.args.table.now t (tree_in a n.left) (tree_in a n.right) n.entry c.get-row.result c.index-table-node.result
    (ap (tree_in a) c.in-Some.is ∙ c.look-node.ensures.tree) c.requires.row (c.get-row.ensures ∙ c.index-table-node.is) in
    let least : c.get-row.result.least ≡ least_key (entries t) = row.0 in
    rw least (by_least c.args.key (entries t) small)
