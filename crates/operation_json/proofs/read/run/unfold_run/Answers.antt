-- Each one follows the last.
use Rattle.std.proofs.Common.{◌≡◌, ◌∙◌, ◌++◌, ◌+◌, ◌∷◌, [], ap, arith, rules, append_assoc, take, drop, length, vec_len}
use Rattle.std.specs.Str.{chars}
use Rattle.std.proofs.lemmas.Iterator.{YieldsList-from_chars}
use Rattle.std.proofs.lemmas.Iterator.Consumers.{YieldsList-turn, YieldsList-end}
use Rattle.std.proofs.lemmas.List.{length_push}
use Rattle.operation_json.specs.Packing.{typed_behind}
use Rattle.operation_json.proofs.RunLoops.{follows_more, follows_all, one_kept, first_kept, all_kept}
use Rattle.operation_json.proofs.read.run.unfold_run.Goals as goal

pub loop-ch-init : goal.loop-ch-init
loop-ch-init c = record {
  whole = ap (λ items. items ++ typed_behind c.args.first (chars c.args.more.now)) c.in_ok-push_kept.ensures.items
      ∙ append_assoc c.args.ops.now.items (c.args.first ∷ []) (typed_behind c.args.first (chars c.args.more.now));
  kept =
      let size : vec_len c.args.ops.now ≡ length c.args.ops.now.items = search rules in
      one_kept c.args.ops.now.items c.args.first c.push_kept.new.ops.items c.in_ok-push_kept.ensures.items
      (omega (arith, c.if-len-ge-MOST.false, c.len.ensures, size));
  few = c.requires.sum;
}

pub next_op-last-requires : goal.next_op-last-requires
next_op-last-requires c =
    let t = YieldsList-turn (YieldsList-from_chars c.args.more.now c.utf8.more cc) c.loop-ch.yielded _ c.loop-ch.yielded_by _ _ c.in-Some.ch
    c.in-Some.is c.next.ensures.steps in
    omega (arith, t.0, c.loop-ch.invariant.few)

pub loop-ch-preserved : goal.loop-ch-preserved
loop-ch-preserved c =
    let t = YieldsList-turn (YieldsList-from_chars c.args.more.now c.utf8.more cc) c.loop-ch.yielded _ c.loop-ch.yielded_by _ _ c.in-Some.ch
    c.in-Some.is c.next.ensures.steps in
    let more = chars c.args.more.now in
    let i = length c.loop-ch.yielded in
    let size : vec_len c.loop-ch.ops ≡ length c.loop-ch.ops.items = search rules in
    record {
      whole = ap (λ n. c.push_kept-in-loop-ch.new.ops.items ++ typed_behind c.next_op-last.result (drop n more))
          (length_push c.loop-ch.yielded c.in-Some.ch)
          ∙ ap (λ items. items ++ typed_behind c.next_op-last.result (drop (i + 1) more)) c.in_ok-push_kept-2.ensures.items
          ∙ ap (λ x. (c.loop-ch.ops.items ++ x ∷ []) ++ typed_behind x (drop (i + 1) more)) c.next_op-last.ensures.value
          ∙ follows_more c.loop-ch.last c.loop-ch.ops.items more i c.in-Some.ch _ t.0 t.1 c.loop-ch.invariant.whole;
      kept = one_kept c.loop-ch.ops.items c.next_op-last.result c.push_kept-in-loop-ch.new.ops.items c.in_ok-push_kept-2.ensures.items
          (omega (arith, c.if-len-ge-MOST-2.false, c.len-in-loop-ch.ensures, size));
      few = omega (
        arith,
        c.next_op-last.ensures.total,
        c.loop-ch.invariant.few,
        length_push c.loop-ch.yielded c.in-Some.ch,
      );
    }

pub returns-clause-ok : goal.returns-clause-ok
returns-clause-ok c =
    let t = YieldsList-end (YieldsList-from_chars c.args.more.now c.utf8.more cc) c.loop-ch.yielded _ c.loop-ch.yielded_by _ _ c.in-None.is
    c.next.ensures.steps in
    all_kept c.loop-ch.ops.items c.loop-ch.invariant.kept
    ∙ ap (take 65) (follows_all c.loop-ch.last c.loop-ch.ops.items (chars c.args.more.now) (length c.loop-ch.yielded) _ (omega (arith, t.1))
    c.loop-ch.invariant.whole)

pub returns-then-len-ge-MOST-clause-ok : goal.returns-then-len-ge-MOST-clause-ok
returns-then-len-ge-MOST-clause-ok c =
    let size : vec_len c.args.ops.now ≡ length c.args.ops.now.items = search rules in
    first_kept c.args.ops.now.items (c.args.first ∷ typed_behind c.args.first (chars c.args.more.now)) c.requires.few
    (omega (arith, c.if-len-ge-MOST.true, c.len.ensures, size))

pub returns-then-len-ge-MOST-2-clause-ok : goal.returns-then-len-ge-MOST-2-clause-ok
returns-then-len-ge-MOST-2-clause-ok c =
    let size : vec_len c.loop-ch.ops ≡ length c.loop-ch.ops.items = search rules in
    first_kept c.loop-ch.ops.items (typed_behind c.loop-ch.last (drop (length c.loop-ch.yielded) (chars c.args.more.now)))
    c.loop-ch.invariant.kept
    (omega (arith, c.if-len-ge-MOST-2.true, c.len-in-loop-ch.ensures, size))
    ∙ ap (take 65) c.loop-ch.invariant.whole
