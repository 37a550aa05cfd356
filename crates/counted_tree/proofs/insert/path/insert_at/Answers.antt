use Rattle.std.proofs.Common.{◌≡◌, ◌+◌, ◌-◌, length, drop, take, get_or, refl, sym, ap, subst, arith}
use Rattle.std.proofs.lemmas.Option.{slice_get-get_or}
use Rattle.counted_tree.specs.declared.kept.side.Side.TheVariants.{Left}
use Rattle.counted_tree.specs.Internal.PathEntries.{under}
use Rattle.counted_tree.specs.Internal.Change.{tree_in}
use Rattle.counted_tree.specs.Internal.Insertion.{IsInserted, AreAlong}
use Rattle.counted_tree.proofs.SettledLevels.{risen}
use Rattle.counted_tree.proofs.Unders.{fit_there, lift_there, lifted_there, made_there}
use Rattle.counted_tree.proofs.insert.path.insert_at.Goals as goal

pub insert_behind-made-requires-clause-at : goal.insert_behind-made-requires-clause-at
insert_behind-made-requires-clause-at c =
    let a = c.args.nodes.now in
    let tb = c.args.table.now in
    let t = tree_in a c.args.link in
    let path = c.args.path.now in
    let ns = c.as_slice-numbers.result.now in
    let long = ap length c.as_slice-numbers.ensures.value in
    let along = subst (AreAlong a t path) (sym c.as_slice-numbers.ensures.value)
    (subst (λ o. AreAlong a (tree_in a o) path c.numbers_along-numbers.result.items) (sym c.in-Some.is)
    c.numbers_along-numbers.ensures.numbers) in
    let number = slice_get-get_or ns (length path) 0 (omega (arith, long, c.numbers_along-numbers.ensures.count)) in
    (along (length path) (get_or ns (length path) 0) number).0

pub insert_behind-made-requires-clause-fit : goal.insert_behind-made-requires-clause-fit
insert_behind-made-requires-clause-fit c =
    let a = c.args.nodes.now in
    let tb = c.args.table.now in
    let t = tree_in a c.args.link in
    let path = c.args.path.now in
    let ns = c.as_slice-numbers.result.now in
    let long = ap length c.as_slice-numbers.ensures.value in
    let along = subst (AreAlong a t path) (sym c.as_slice-numbers.ensures.value)
    (subst (λ o. AreAlong a (tree_in a o) path c.numbers_along-numbers.result.items) (sym c.in-Some.is)
    c.numbers_along-numbers.ensures.numbers) in
    let number = slice_get-get_or ns (length path) 0 (omega (arith, long, c.numbers_along-numbers.ensures.count)) in
    fit_there a tb t path ns c.args.entry.now (length path) (get_or ns (length path) 0) along c.requires.there c.requires.fit number refl

pub loop-level-init : goal.loop-level-init
loop-level-init c =
    let a = c.args.nodes.now in
    let tb = c.args.table.now in
    let t = tree_in a c.args.link in
    let path = c.args.path.now in
    let ns = c.as_slice-numbers.result.now in
    let long = ap length c.as_slice-numbers.ensures.value in
    let along = subst (AreAlong a t path) (sym c.as_slice-numbers.ensures.value)
    (subst (λ o. AreAlong a (tree_in a o) path c.numbers_along-numbers.result.items) (sym c.in-Some.is)
    c.numbers_along-numbers.ensures.numbers) in
    let number = slice_get-get_or ns (length path) 0 (omega (arith, long, c.numbers_along-numbers.ensures.count)) in
    record {
      within = omega arith;
      made = made_there a c.insert_behind-made.new.nodes tb c.insert_behind-made.new.table t path ns c.args.entry.now
          c.insert_behind-made.result (length path) (get_or ns (length path) 0) along number refl c.insert_behind-made.ensures.inserted;
      cost = omega (arith, c.insert_behind-made.ensures.cost, c.numbers_along-numbers.ensures.cost);
      counted = omega (arith, c.insert_behind-made.ensures.counted, c.numbers_along-numbers.ensures.counts_on);
    }

pub lift-made-requires : goal.lift-made-requires
lift-made-requires c =
    let a = c.args.nodes.now in
    let tb = c.args.table.now in
    let t = tree_in a c.args.link in
    let path = c.args.path.now in
    let ns = c.as_slice-numbers.result.now in
    let long = ap length c.as_slice-numbers.ensures.value in
    let along = subst (AreAlong a t path) (sym c.as_slice-numbers.ensures.value)
    (subst (λ o. AreAlong a (tree_in a o) path c.numbers_along-numbers.result.items) (sym c.in-Some.is)
    c.numbers_along-numbers.ensures.numbers) in
    let level = c.loop-level.level in
    let i = level - 1 in
    let k = get_or ns i 0 in
    let s = get_or path i Left in
    let inv = c.loop-level.invariant in
    let number = slice_get-get_or ns i 0 (omega (arith, long, c.numbers_along-numbers.ensures.count, inv.within)) in
    let side = slice_get-get_or path i Left (omega (arith, inv.within, c.loop-level-test.true)) in
    let one : level ≡ i + 1 = omega (arith, c.loop-level-test.true) in
    let lifts = lift_there a c.loop-level.nodes tb c.loop-level.table t path ns c.args.entry.now c.loop-level.made level i k s
    c.requires.sound along c.requires.there c.requires.fit number side one inv.made in
    (a, tb, drop level path, lifts)

pub lift_settled-requires-clause-risen : goal.lift_settled-requires-clause-risen
lift_settled-requires-clause-risen c =
    let a = c.args.nodes.now in
    let tb = c.args.table.now in
    let t = tree_in a c.args.link in
    let path = c.args.path.now in
    let ns = c.as_slice-numbers.result.now in
    let along = subst (AreAlong a t path) (sym c.as_slice-numbers.ensures.value)
    (subst (λ o. AreAlong a (tree_in a o) path c.numbers_along-numbers.result.items) (sym c.in-Some.is)
    c.numbers_along-numbers.ensures.numbers) in (
      a,
      tb,
      c.loop-level.table,
      t,
      risen a c.loop-level.nodes tb c.loop-level.table t path ns c.args.entry.now c.loop-level.made c.loop-level.level c.in-Settled.part
          c.requires.sound along c.requires.there c.requires.fit c.in-Settled.is c.loop-level.invariant.made,
    )

pub returns-in-Settled-clause-inserted : goal.returns-in-Settled-clause-inserted
returns-in-Settled-clause-inserted c =
    let a = c.args.nodes.now in
    let tb = c.args.table.now in
    let t = tree_in a c.args.link in
    let path = c.args.path.now in
    let ns = c.as_slice-numbers.result.now in
    let along = subst (AreAlong a t path) (sym c.as_slice-numbers.ensures.value)
    (subst (λ o. AreAlong a (tree_in a o) path c.numbers_along-numbers.result.items) (sym c.in-Some.is)
    c.numbers_along-numbers.ensures.numbers) in
    c.lift_settled.ensures.inserted a tb c.loop-level.table t
    (risen a c.loop-level.nodes tb c.loop-level.table t path ns c.args.entry.now c.loop-level.made c.loop-level.level c.in-Settled.part
    c.requires.sound along c.requires.there c.requires.fit c.in-Settled.is c.loop-level.invariant.made)

pub loop-level-preserved : goal.loop-level-preserved
loop-level-preserved c =
    let a = c.args.nodes.now in
    let tb = c.args.table.now in
    let t = tree_in a c.args.link in
    let path = c.args.path.now in
    let ns = c.as_slice-numbers.result.now in
    let long = ap length c.as_slice-numbers.ensures.value in
    let along = subst (AreAlong a t path) (sym c.as_slice-numbers.ensures.value)
    (subst (λ o. AreAlong a (tree_in a o) path c.numbers_along-numbers.result.items) (sym c.in-Some.is)
    c.numbers_along-numbers.ensures.numbers) in
    let level = c.loop-level.level in
    let i = level - 1 in
    let k = get_or ns i 0 in
    let s = get_or path i Left in
    let inv = c.loop-level.invariant in
    let number = slice_get-get_or ns i 0 (omega (arith, long, c.numbers_along-numbers.ensures.count, inv.within)) in
    let side = slice_get-get_or path i Left (omega (arith, inv.within, c.loop-level-test.true)) in
    let one : level ≡ i + 1 = omega (arith, c.loop-level-test.true) in
    let lifts = lift_there a c.loop-level.nodes tb c.loop-level.table t path ns c.args.entry.now c.loop-level.made level i k s
    c.requires.sound along c.requires.there c.requires.fit number side one inv.made in
    record {
      within = omega (arith, inv.within);
      made = lifted_there a c.lift-made.new.nodes tb c.lift-made.new.table t path ns c.args.entry.now c.lift-made.result
          level i k s along number side one (c.lift-made.ensures.inserted a tb (drop level path) lifts);
      cost = omega (arith, one, c.lift-made.ensures.cost, inv.cost);
      counted = omega (arith, c.lift-made.ensures.counts_on, inv.counted);
    }

pub returns-clause-inserted : goal.returns-clause-inserted
returns-clause-inserted c =
    let a = c.args.nodes.now in
    let path = c.args.path.now in
    let e : c.loop-level.level ≡ 0 = omega (arith, c.loop-level-test.false) in
    subst (λ j. IsInserted a c.loop-level.nodes c.args.table.now c.loop-level.table (under (tree_in a c.args.link) (take j path))
    (drop j path) c.args.entry.now c.loop-level.made) e c.loop-level.invariant.made

pub returns-in-Settled-clause-cost : goal.returns-in-Settled-clause-cost
returns-in-Settled-clause-cost c = omega (arith, c.lift_settled.ensures.cost, c.loop-level.invariant.cost)

pub returns-clause-cost : goal.returns-clause-cost
returns-clause-cost c = omega (arith, c.loop-level-test.false, c.loop-level.invariant.cost)

pub returns-in-Settled-clause-counted : goal.returns-in-Settled-clause-counted
returns-in-Settled-clause-counted c = omega (arith, c.lift_settled.ensures.counts_on, c.loop-level.invariant.counted)
