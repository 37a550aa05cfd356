use Rattle.std.proofs.Common.{◌∷◌, ap, sym, ◌∙◌}
use Rattle.counted_tree.specs.Internal.Tree.{entries}
use Rattle.counted_tree.specs.Internal.Change.{tree_in}
use Rattle.counted_tree.specs.Greater.{passed}
use Rattle.counted_tree.specs.Internal.Stops.{last_of}
use Rattle.counted_tree.proofs.Passes.{passed_within, passed_past, passed_stops, passed_goes}
use Rattle.counted_tree.proofs.read.greater.+passed_in.Goals as goal

pub returns-then-not-are_greater-clause-last : goal.returns-then-not-are_greater-clause-last
returns-then-not-are_greater-clause-last t c =
    let a = c.args.nodes.now in
    let n = c.look-node.result in
    let l = entries (tree_in a n.left) in
    let r = entries (tree_in a n.right) in
    let whole = ap (λ u. passed c.args.key c.args.last (entries u)) (ap (tree_in a) c.in-Some.is ∙ c.look-node.ensures.tree) in
    c.passed_in.ensures.last ∙ sym (whole ∙ passed_within c.args.key c.args.last l (n.entry ∷ r)
    (sym c.are_greater.ensures.greater ∙ c.if-not-are_greater.true))

pub returns-then-node-key-clause-last : goal.returns-then-node-key-clause-last
returns-then-node-key-clause-last t c =
    let a = c.args.nodes.now in
    let n = c.look-node.result in
    let l = entries (tree_in a n.left) in
    let r = entries (tree_in a n.right) in
    let whole = ap (λ u. passed c.args.key c.args.last (entries u)) (ap (tree_in a) c.in-Some.is ∙ c.look-node.ensures.tree) in
    c.last_in.ensures.last ∙ sym (whole ∙ passed_past c.args.key c.args.last l (n.entry ∷ r)
    (sym c.are_greater.ensures.greater ∙ c.if-not-are_greater.false)
    ∙ passed_stops c.args.key (last_of c.args.last l) n.entry r c.if-node-key.true)

pub returns-else-node-key-clause-last : goal.returns-else-node-key-clause-last
returns-else-node-key-clause-last t c =
    let a = c.args.nodes.now in
    let n = c.look-node.result in
    let l = entries (tree_in a n.left) in
    let r = entries (tree_in a n.right) in
    let whole = ap (λ u. passed c.args.key c.args.last (entries u)) (ap (tree_in a) c.in-Some.is ∙ c.look-node.ensures.tree) in
    c.passed_in-else-node-key.ensures.last ∙ sym (whole ∙ passed_past c.args.key c.args.last l (n.entry ∷ r)
    (sym c.are_greater.ensures.greater ∙ c.if-not-are_greater.false)
    ∙ passed_goes c.args.key (last_of c.args.last l) n.entry r c.if-node-key.false)
