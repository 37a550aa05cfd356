use Rattle.std.proofs.Common.{◌≡◌, ◌+◌, arith, length, get_or, drop, take, Some, None, sym, ap, ◌∙◌, subst}
use Rattle.std.proofs.lemmas.Option.{slice_get-get_or}
use Rattle.std.specs.Option.{IsSome}
use Rattle.counted_tree.specs.declared.kept.side.Side.TheVariants.{Left}
use Rattle.counted_tree.specs.Internal.PathEntries.{entry_at, turned, under}
use Rattle.counted_tree.specs.Internal.Arena.{IsLinkBelow}
use Rattle.counted_tree.specs.Internal.Change.{tree_in}
use Rattle.counted_tree.proofs.Unders.{along_pushed, entry_under, side_below, side_tree, under_step}
use Rattle.counted_tree.proofs.insert.way.numbers_along.Goals as goal

pub unreachable-requires : goal.unreachable-requires
unreachable-requires c =
    let a = c.args.nodes.now in
    let t = tree_in a (Some c.args.top) in
    let path = c.args.path.now in
    let i = c.loop-side.side-index in
    let s = get_or path i Left in
    let at = slice_get-get_or path i Left (omega (arith, c.loop-side-test.true)) in
    let tree = side_tree a c.look.result s c.side.result (tree_in a (Some c.loop-side.at)) c.look.ensures.tree c.side.ensures.left
    c.side.ensures.right in
    let down = under_step t path i s at ∙ ap (λ u. turned u s) (sym c.loop-side.invariant.here) ∙ sym tree in
    let none : entry_at t path ≡ None = entry_under t path (i + 1)
    ∙ ap (λ u. entry_at u (drop (i + 1) path)) (down ∙ ap (tree_in a) c.in_default.is) in
    let some = subst IsSome none c.requires.there in
    absurd (cc)

pub loop-side-preserved : goal.loop-side-preserved
loop-side-preserved c =
    let a = c.args.nodes.now in
    let t = tree_in a (Some c.args.top) in
    let path = c.args.path.now in
    let i = c.loop-side.side-index in
    let s = get_or path i Left in
    let inv = c.loop-side.invariant in
    let at = slice_get-get_or path i Left (omega (arith, c.loop-side-test.true)) in
    let o = c.look.ensures in
    let tree = side_tree a c.look.result s c.side.result (tree_in a (Some c.loop-side.at)) o.tree c.side.ensures.left
    c.side.ensures.right in
    let down = under_step t path i s at ∙ ap (λ u. turned u s) (sym inv.here) ∙ sym tree in
    record {
      below = subst (IsLinkBelow (length a.nodes)) c.in-Some.is (side_below (length a.nodes) c.look.result s c.side.result o.left o.right
          c.side.ensures.left c.side.ensures.right);
      here = sym (down ∙ ap (tree_in a) c.in-Some.is);
      numbers = along_pushed a t path c.loop-side.numbers.items c.push.new.self.items c.loop-side.at inv.numbers inv.below
          (inv.here ∙ ap (λ j. under t (take j path)) (sym inv.count)) c.push.ensures.items;
      count = omega (arith, c.push.ensures.len, inv.count);
      cost = omega (arith, o.cost, inv.cost);
      counts_on = omega (arith, o.step, inv.counts_on);
    }

pub returns-clause-numbers : goal.returns-clause-numbers
returns-clause-numbers c =
    let a = c.args.nodes.now in
    let t = tree_in a (Some c.args.top) in
    let path = c.args.path.now in
    let inv = c.loop-side.invariant in
    along_pushed a t path c.loop-side.numbers.items c.push-2.new.self.items c.loop-side.at inv.numbers inv.below
    (inv.here ∙ ap (λ j. under t (take j path)) (sym inv.count)) c.push-2.ensures.items
