use Rattle.std.proofs.Common.{◌≡◌, ◌<◌, ◌∷◌, ◌++◌, [], Some, length, rules, arith, sym, ap, ◌∙◌, subst, append_assoc, reverse}
use Rattle.std.proofs.lemmas.List.{reverse-reverse, append-nil, length-reverse}
use Rattle.counted_tree.specs.Internal.Table.{IsWayUp}
use Rattle.counted_tree.proofs.Ways.{way_first, way_none, way_within, row_read, refilled}
use Rattle.counted_tree.proofs.read.climb.way_to.Goals as goal

pub bounds-table-at : goal.bounds-table-at
bounds-table-at c = way_within c.args.table.now c.loop-above.at c.loop-above.invariant.rest.0 c.loop-above.invariant.rest.2

pub push-requires : goal.push-requires
push-requires c =
    let w = way_first c.args.table.now c.loop-above.at c.in-Some.above c.loop-above.invariant.rest.0
    (row_read c.args.table.now c.loop-above.at c.index-table-at.result c.get.result c.loop-above.invariant.rest.0
    c.index-table-at.is c.get.ensures c.loop-above.invariant.rest.2 ∙ ap Some c.in-Some.is) c.loop-above.invariant.rest.2 in
    let more : length c.loop-above.path.items < 25 = omega (arith, ap length w.1, c.loop-above.invariant.rest.1) in
    (search rules, more)

pub loop-above-smaller : goal.loop-above-smaller
loop-above-smaller c =
    let w = way_first c.args.table.now c.loop-above.at c.in-Some.above c.loop-above.invariant.rest.0
    (row_read c.args.table.now c.loop-above.at c.index-table-at.result c.get.result c.loop-above.invariant.rest.0
    c.index-table-at.is c.get.ensures c.loop-above.invariant.rest.2 ∙ ap Some c.in-Some.is) c.loop-above.invariant.rest.2 in
    omega (arith, ap length w.1, c.loop-above.invariant.rest.1, c.push.ensures.len)

pub loop-above-preserved : goal.loop-above-preserved
loop-above-preserved c =
    let tb = c.args.table.now in
    let b = c.in-Some.above in
    let row = row_read tb c.loop-above.at c.index-table-at.result c.get.result c.loop-above.invariant.rest.0
    c.index-table-at.is c.get.ensures c.loop-above.invariant.rest.2 ∙ ap Some c.in-Some.is in
    let w = way_first tb c.loop-above.at b c.loop-above.invariant.rest.0 row c.loop-above.invariant.rest.2 in
    record {
      rest = (w.0, omega (arith, ap length w.1, c.loop-above.invariant.rest.1, c.push.ensures.len), w.2);
      joins = λ up h.
          let e = ap (λ z. z ++ up) c.push.ensures.items ∙ append_assoc c.loop-above.path.items (b.side ∷ []) up in
          subst (IsWayUp tb c.args.elem) (sym e) (c.loop-above.invariant.joins (b.side ∷ up) (b.elem, row, h));
    }

pub returns : goal.returns
returns c =
    let tb = c.args.table.now in
    let xs = c.loop-above.path.items in
    let rest = c.loop-above.invariant.rest in
    let none = way_none tb c.loop-above.at rest.0 (row_read tb c.loop-above.at c.index-table-at.result c.get.result rest.0
    c.index-table-at.is c.get.ensures rest.2 ∙ ap Some c.in_default.is) rest.2 in
    let way = c.loop-above.invariant.joins [] (subst (IsWayUp tb c.loop-above.at) none rest.2) in
    let value = c.deref_mut.ensures.value in
    let turned = c.reverse.ensures.after ∙ ap reverse value in
    let long : length c.reverse.new.self ≡ length xs = ap length turned ∙ length-reverse xs in
    let same = refilled xs c.reverse.new.self long ∙ turned in
    subst (IsWayUp tb c.args.elem) (sym (ap reverse same ∙ reverse-reverse xs)) (subst (IsWayUp tb c.args.elem) (append-nil xs) way)
