use Rattle.std.proofs.Common.{ap, sym, ◌∙◌}
use Rattle.counted_tree.specs.Internal.Tree.{entries}
use Rattle.counted_tree.specs.Internal.Change.{tree_in}
use Rattle.counted_tree.specs.Internal.Stops.{last_of}
use Rattle.counted_tree.proofs.Passes.{last_of-append}
use Rattle.counted_tree.proofs.read.greater.+last_in.Goals as goal

pub returns-clause-last : goal.returns-clause-last
returns-clause-last t c =
    let a = c.args.nodes.now in
    let n = c.look-node.result in
    let whole = ap (λ u. last_of c.args.last (entries u)) (ap (tree_in a) c.in-Some.is ∙ c.look-node.ensures.tree) in
    c.last_in.ensures.last ∙ sym (whole ∙ last_of-append c.args.last (entries (tree_in a n.left)) (entries (tree_in a n.right)) n.entry)
