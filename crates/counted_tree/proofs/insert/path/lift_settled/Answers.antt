use Rattle.std.proofs.Common.{◌≡◌, ◌+◌, ◌-◌, drop, take, get_or, subst, arith}
use Rattle.std.proofs.lemmas.Option.{slice_get-get_or}
use Rattle.counted_tree.specs.declared.insert.level.Grown.TheVariants.{Settled}
use Rattle.counted_tree.specs.declared.insert.path.Inserted.{Inserted}
use Rattle.counted_tree.specs.declared.kept.side.Side.TheVariants.{Left}
use Rattle.counted_tree.specs.Internal.PathEntries.{under}
use Rattle.counted_tree.specs.Internal.Insertion.{IsInserted}
use Rattle.counted_tree.proofs.Unders.{lift_there, lifted_there}
use Rattle.counted_tree.proofs.insert.path.lift_settled.Goals as goal

pub step_settled-made-requires : goal.step_settled-made-requires
step_settled-made-requires c =
    let part : Inserted = record {
      top = Settled c.loop-level.top;
      rank = record { shown = c.loop-level.shown; units = c.loop-level.units };
    } in
    let w = c.requires.risen in
    let path = c.args.path.now in
    let ns = c.args.numbers.now in
    let level = c.loop-level.level in
    let i = level - 1 in
    let inv = c.loop-level.invariant in
    let r = inv.risen w.0 w.1 w.2 w.3 w.4 in
    let number = slice_get-get_or ns i 0 (omega (arith, inv.within, c.requires.count)) in
    let side = slice_get-get_or path i Left (omega (arith, inv.within, c.loop-level-test.true)) in
    let one : level ≡ i + 1 = omega (arith, c.loop-level-test.true) in
    let lifts = lift_there w.0 c.loop-level.nodes w.1 w.2 w.3 path ns c.args.entry.now
    part level i (get_or ns i 0) (get_or path i Left)
    r.sound r.along r.there r.fit number side one r.part_made in
    (w.0, w.1, w.2, drop level path, c.args.entry.now, c.of-more.ensures, lifts)

pub loop-level-preserved : goal.loop-level-preserved
loop-level-preserved c =
    let part : Inserted = record {
      top = Settled c.loop-level.top;
      rank = record { shown = c.loop-level.shown; units = c.loop-level.units };
    } in
    let made : Inserted = record {
      top = Settled c.step_settled-made.result.0;
      rank = record { shown = c.step_settled-made.result.1; units = c.step_settled-made.result.2 };
    } in
    let path = c.args.path.now in
    let ns = c.args.numbers.now in
    let level = c.loop-level.level in
    let i = level - 1 in
    let k = get_or ns i 0 in
    let s = get_or path i Left in
    let inv = c.loop-level.invariant in
    let number = slice_get-get_or ns i 0 (omega (arith, inv.within, c.requires.count)) in
    let side = slice_get-get_or path i Left (omega (arith, inv.within, c.loop-level-test.true)) in
    let one : level ≡ i + 1 = omega (arith, c.loop-level-test.true) in
    record {
      within = omega (arith, inv.within);
      risen = λ a tb mid t given.
          let r = inv.risen a tb mid t given in
          let lifts = lift_there a c.loop-level.nodes tb mid t path ns c.args.entry.now
          part level i k s r.sound r.along r.there r.fit number side
          one r.part_made in
          record {
            sound = r.sound;
            along = r.along;
            there = r.there;
            fit = r.fit;
            part_made = lifted_there a c.step_settled-made.new.nodes tb mid t path ns c.args.entry.now
                made level i k s r.along number
                side one (c.step_settled-made.ensures.inserted a tb mid (drop level path) c.args.entry.now c.of-more.ensures lifts);
          };
      cost = omega (arith, one, c.step_settled-made.ensures.cost, inv.cost);
      counts_on = omega (arith, c.step_settled-made.ensures.counts_on, inv.counts_on);
    }

pub returns-clause-inserted : goal.returns-clause-inserted
returns-clause-inserted c =
    let part : Inserted = record {
      top = Settled c.loop-level.top;
      rank = record { shown = c.loop-level.shown; units = c.loop-level.units };
    } in
    let path = c.args.path.now in
    let e : c.loop-level.level ≡ 0 = omega (arith, c.loop-level-test.false) in
    λ a tb mid t given.
    subst (λ j. IsInserted a c.loop-level.nodes tb mid (under t (take j path)) (drop j path) c.args.entry.now
    part) e (c.loop-level.invariant.risen a tb mid t given).part_made

pub returns-clause-cost : goal.returns-clause-cost
returns-clause-cost c = omega (arith, c.loop-level-test.false, c.loop-level.invariant.cost)
