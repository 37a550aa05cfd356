use Rattle.std.proofs.Common.{◌≡◌, ℕ, ◌+◌, ◌-◌, ◌*◌, ◌<◌, ◌≤◌, max, length, ap, sym, subst, ◌∙◌, arith}
use Rattle.std.proofs.lemmas.Bool.Decides.{nat_tests}
use Rattle.counted_tree.specs.Entry.{visible}
use Rattle.counted_tree.specs.Internal.Tree.{entries, height}
use Rattle.counted_tree.specs.Internal.Tree.Tree.{Fork}
use Rattle.counted_tree.specs.Internal.Change.{tree_in}
use Rattle.counted_tree.proofs.Looks.{few_below}
use Rattle.counted_tree.proofs.Sizes.{shown-fork}
use Rattle.counted_tree.proofs.read.walk.+push_shown_in.Goals as goal

pub returns-clause-few : goal.returns-clause-few
returns-clause-few t c =
    let tree = tree_in c.args.nodes.now in
    let n = c.look-node.result in
    let sl = n.left_size.shown in
    let sr = c.args.shown - sl - c.items.result in
    let l = height (tree n.left) in
    let r = height (tree n.right) in
    let whole : tree c.args.link ≡ Fork (tree n.left) n.entry (tree n.right) =
    ap (λ k. tree k) c.in-Some.is ∙ c.look-node.ensures.tree in
    let shown : c.args.shown ≡ length (visible (entries (Fork (tree n.left) n.entry (tree n.right)))) =
    c.requires.shown ∙ ap (λ u. length (visible (entries u))) whole in
    let high : height (tree c.args.link) ≡ max l r + 1 = ap height whole in
    let some : 0 < c.args.shown = grind (arith, nat_tests, c.if-shown-eq0.false) in
    let both : sl + sr ≤ c.args.shown =
    omega (arith, shown, shown-fork (entries (tree n.left)) (entries (tree n.right)) n.entry, c.look-node.ensures.size.0) in
    let lower : l ≤ max l r = grind (arith, nat_tests) in
    let upper : r ≤ max l r = grind (arith, nat_tests) in
    let few = few_below c.args.shown sl sr l r (max l r) some both lower upper in
    subst (λ (h : ℕ). c.push_shown_in-2.new.steps ≤ c.args.steps.now + c.args.shown * h) (sym high)
    (omega (arith, few, c.look-node.ensures.cost, c.push_shown_in.ensures.few, c.push_shown_in-2.ensures.few))
