use Rattle.std.proofs.Common.{◌≡◌, ◌∷◌, ◌++◌, true, Some, None, ap, sym, ◌∙◌, subst, arith}
use Rattle.std.specs.Option.{IsSome}
use Rattle.counted_tree.specs.declared.kept.side.Side.TheVariants.{Left}
use Rattle.counted_tree.specs.Internal.Tree.{entries, height}
use Rattle.counted_tree.specs.Internal.Tree.Tree.{Fork}
use Rattle.counted_tree.specs.Internal.Change.{tree_in}
use Rattle.counted_tree.specs.Internal.PathEntries.{entry_at, after_at, elem_at}
use Rattle.counted_tree.specs.Internal.Stops.{all_greater, last_of, stop}
use Rattle.counted_tree.proofs.Passes.{stop_before, stop_none, stop_here, stop_later, last_there, elem_there, last_of-some}
use Rattle.counted_tree.proofs.read.greater.+stop_at.Goals as goal

pub returns-in-Some-stop_at-clause-last : goal.returns-in-Some-stop_at-clause-last
returns-in-Some-stop_at-clause-last t c =
    let a = c.args.nodes.now in
    let n = c.look-node.result in
    let l = tree_in a n.left in
    let r = tree_in a n.right in
    let down = c.in-Some-Left-default.rest.now in
    let whole : tree_in a c.args.link ≡ Fork l n.entry r = ap (tree_in a) c.in-Some.is ∙ c.look-node.ensures.tree in
    let way : c.args.path.now ≡ Left ∷ down =
    cc (c.in-Some-Left-default.ensures.cases.0, c.in-Some-Left-default.field-0-0-is) in
    let goal_is : stop c.args.key (elem_at (tree_in a c.args.link) c.args.path.now) (after_at (tree_in a c.args.link) c.args.path.now)
    ≡ stop c.args.key (elem_at l down) (after_at l down ++ n.entry ∷ entries r) = rw (whole, way) in
    sym (goal_is ∙ stop_before c.args.key (elem_at l down) (after_at l down) (n.entry ∷ entries r) c.in-Some-stop_at.last
    (sym c.stop_at-in-Some-Left-default.ensures.last ∙ c.in-Some-stop_at.is))

pub returns-in-None-stop_at-clause-last : goal.returns-in-None-stop_at-clause-last
returns-in-None-stop_at-clause-last t c =
    let a = c.args.nodes.now in
    let n = c.look-node.result in
    let l = tree_in a n.left in
    let r = tree_in a n.right in
    let down = c.in-Some-Left-default.rest.now in
    let whole : tree_in a c.args.link ≡ Fork l n.entry r = ap (tree_in a) c.in-Some.is ∙ c.look-node.ensures.tree in
    let way : c.args.path.now ≡ Left ∷ down =
    cc (c.in-Some-Left-default.ensures.cases.0, c.in-Some-Left-default.field-0-0-is) in
    let goal_is : stop c.args.key (elem_at (tree_in a c.args.link) c.args.path.now) (after_at (tree_in a c.args.link) c.args.path.now)
    ≡ stop c.args.key (elem_at l down) (after_at l down ++ n.entry ∷ entries r) = rw (whole, way) in
    let there : IsSome (entry_at l down) = subst (λ u. IsSome (entry_at u (Left ∷ down))) whole
    (subst (λ p. IsSome (entry_at (tree_in a c.args.link) p)) way c.requires.there) in
    let first = elem_there l down there in
    let passed : all_greater c.args.key (after_at l down) ≡ true = stop_none c.args.key first.0 (after_at l down)
    (sym (ap (λ d. stop c.args.key d (after_at l down)) first.1) ∙ sym c.stop_at-in-Some-Left-default.ensures.last
    ∙ c.in-None-stop_at.is) in
    c.last_in.ensures.last ∙ sym (goal_is
    ∙ stop_here c.args.key (elem_at l down) (after_at l down) (entries r) n.entry passed c.if-node-key.true ∙ last_there l down None there)

pub returns-in-None-stop_at-clause-passed : goal.returns-in-None-stop_at-clause-passed
returns-in-None-stop_at-clause-passed t c = λ none.
    let a = c.args.nodes.now in
    let n = c.look-node.result in
    let l = tree_in a n.left in
    let r = tree_in a n.right in
    let down = c.in-Some-Left-default.rest.now in
    let whole : tree_in a c.args.link ≡ Fork l n.entry r = ap (tree_in a) c.in-Some.is ∙ c.look-node.ensures.tree in
    let way : c.args.path.now ≡ Left ∷ down =
    cc (c.in-Some-Left-default.ensures.cases.0, c.in-Some-Left-default.field-0-0-is) in
    let there : IsSome (entry_at l down) = subst (λ u. IsSome (entry_at u (Left ∷ down))) whole
    (subst (λ p. IsSome (entry_at (tree_in a c.args.link) p)) way c.requires.there) in
    let first = elem_there l down there in
    let same : last_of (elem_at l down) (after_at l down) ≡ last_of (Some first.0) (after_at l down) =
    ap (λ d. last_of d (after_at l down)) first.1 in
    absurd (last_of-some first.0 (after_at l down) (sym same ∙ last_there l down None there ∙ sym c.last_in.ensures.last ∙ none))

pub returns-in-None-2-clause-last : goal.returns-in-None-2-clause-last
returns-in-None-2-clause-last t c =
    let a = c.args.nodes.now in
    let n = c.look-node.result in
    let l = tree_in a n.left in
    let r = tree_in a n.right in
    let down = c.in-Some-Left-default.rest.now in
    let whole : tree_in a c.args.link ≡ Fork l n.entry r = ap (tree_in a) c.in-Some.is ∙ c.look-node.ensures.tree in
    let way : c.args.path.now ≡ Left ∷ down =
    cc (c.in-Some-Left-default.ensures.cases.0, c.in-Some-Left-default.field-0-0-is) in
    let goal_is : stop c.args.key (elem_at (tree_in a c.args.link) c.args.path.now) (after_at (tree_in a c.args.link) c.args.path.now)
    ≡ stop c.args.key (elem_at l down) (after_at l down ++ n.entry ∷ entries r) = rw (whole, way) in
    let there : IsSome (entry_at l down) = subst (λ u. IsSome (entry_at u (Left ∷ down))) whole
    (subst (λ p. IsSome (entry_at (tree_in a c.args.link) p)) way c.requires.there) in
    let first = elem_there l down there in
    let passed : all_greater c.args.key (after_at l down) ≡ true = stop_none c.args.key first.0 (after_at l down)
    (sym (ap (λ d. stop c.args.key d (after_at l down)) first.1) ∙ sym c.stop_at-in-Some-Left-default.ensures.last
    ∙ c.in-None-stop_at.is) in
    c.stop_in-in-None-2.ensures.last ∙ sym (goal_is
    ∙ stop_later c.args.key (elem_at l down) (after_at l down) (entries r) n.entry passed c.if-node-key.false)

pub returns-in-None-2-clause-passed : goal.returns-in-None-2-clause-passed
returns-in-None-2-clause-passed t c = λ none.
    let a = c.args.nodes.now in
    let n = c.look-node.result in
    let l = tree_in a n.left in
    let r = tree_in a n.right in
    let down = c.in-Some-Left-default.rest.now in
    let whole : tree_in a c.args.link ≡ Fork l n.entry r = ap (tree_in a) c.in-Some.is ∙ c.look-node.ensures.tree in
    let way : c.args.path.now ≡ Left ∷ down =
    cc (c.in-Some-Left-default.ensures.cases.0, c.in-Some-Left-default.field-0-0-is) in
    let right = c.stop_in-in-None-2.ensures.passed (stop_none c.args.key n.entry.elem (entries r)
    (sym c.stop_in-in-None-2.ensures.last ∙ none)) in
    let left = c.stop_at-in-Some-Left-default.ensures.passed c.in-None-stop_at.is in
    omega (arith, right, left, ap height whole, c.look-node.ensures.cost)
