use Rattle.std.proofs.Common.{◌∙◌, ◌++◌, [], ◌∷◌, Some, length, drop, sum, ap, arith}
use Rattle.std.specs.Str.{chars}
use Rattle.std.proofs.lemmas.Iterator.{YieldsList-from_chars}
use Rattle.std.proofs.lemmas.Iterator.Consumers.{YieldsList-turn, YieldsList-end}
use Rattle.std.proofs.lemmas.List.{length_push}
use Rattle.opid.specs.Asked.{insertion_run}
use Rattle.position_translate.proofs.Asking.{known, known_pushed, insertion_more, insertion_all}
use Rattle.position_translate.proofs.insertions.run.Goals as goal

pub loop-ch-init : goal.loop-ch-init
loop-ch-init c = record {
  whole = ap (λ ops. ops ++ insertion_run c.args.site (known c.args.clock ops) c.args.parent (chars c.args.text.now))
      c.in_ok-ops.ensures.items;
  few = omega (arith, c.requires, ap (λ ops. sum (known c.args.clock ops)) c.in_ok-ops.ensures.items);
}

pub next-op-requires : goal.next-op-requires
next-op-requires c =
    let t = YieldsList-turn (YieldsList-from_chars c.args.text.now c.utf8.text cc) c.loop-ch.yielded _ c.loop-ch.yielded_by _ _ c.in-Some.ch
    c.in-Some.is c.next.ensures.steps in
    let knows = c.known_behind-known.ensures ∙ ap (known c.args.clock) c.as_slice.ensures.value in
    omega (arith, t.0, c.loop-ch.invariant.few, ap sum knows)

pub loop-ch-preserved : goal.loop-ch-preserved
loop-ch-preserved c =
    let t = YieldsList-turn (YieldsList-from_chars c.args.text.now c.utf8.text cc) c.loop-ch.yielded _ c.loop-ch.yielded_by _ _ c.in-Some.ch
    c.in-Some.is c.next.ensures.steps in
    let knows = c.known_behind-known.ensures ∙ ap (known c.args.clock) c.as_slice.ensures.value in
    record {
      whole =
          ap (λ ops. ops ++ insertion_run c.args.site (known c.args.clock ops) (Some c.stamp.result)
          (drop (length (c.loop-ch.yielded ++ c.in-Some.ch ∷ [])) (chars c.args.text.now))) c.in_ok-push.ensures.items
          ∙ ap (λ n. (c.loop-ch.ops.items ++ c.next-op.result ∷ [])
          ++ insertion_run c.args.site (known c.args.clock (c.loop-ch.ops.items ++ c.next-op.result ∷ [])) (Some c.stamp.result)
          (drop n (chars c.args.text.now)))
          (length_push c.loop-ch.yielded c.in-Some.ch)
          ∙ insertion_more c.args.site c.loop-ch.ops.items c.args.clock c.known_behind-known.result.now c.loop-ch.parent
          (Some c.stamp.result)
          (chars c.args.text.now) (length c.loop-ch.yielded) c.in-Some.ch c.next-op.result
          (insertion_run c.args.site c.args.clock c.args.parent (chars c.args.text.now))
          t.0 t.1 knows c.next-op.ensures.value
          (ap Some c.stamp.ensures) c.loop-ch.invariant.whole;
      few = omega (
        arith,
        c.loop-ch.invariant.few,
        c.next-op.ensures.total,
        ap sum knows,
        ap (λ ops. sum (known c.args.clock ops)) c.in_ok-push.ensures.items,
        ap sum (known_pushed c.args.clock c.loop-ch.ops.items c.next-op.result),
        length_push c.loop-ch.yielded c.in-Some.ch,
      );
    }

pub returns : goal.returns
returns c =
    let t = YieldsList-end (YieldsList-from_chars c.args.text.now c.utf8.text cc) c.loop-ch.yielded _ c.loop-ch.yielded_by _ _ c.in-None.is
    c.next.ensures.steps in
    insertion_all c.args.site c.loop-ch.ops.items (known c.args.clock c.loop-ch.ops.items) c.loop-ch.parent (chars c.args.text.now)
    (length c.loop-ch.yielded)
    (insertion_run c.args.site c.args.clock c.args.parent (chars c.args.text.now)) (omega (arith, t.1)) c.loop-ch.invariant.whole
