-- Each one follows the last.
use Rattle.std.proofs.Common.{◌≡◌, ◌<◌, ◌∙◌, ◌++◌, ◌+◌, ◌∷◌, [], ℕ, List, ap, arith, drop, get_or, length, subst}
use Rattle.std.proofs.lemmas.Iterator.{YieldsList-from_chars}
use Rattle.std.proofs.lemmas.Iterator.Consumers.{YieldsList-turn, YieldsList-end}
use Rattle.std.proofs.lemmas.List.{length_push}
use Rattle.operation_json.specs.Packing.{Item, typed_behind}
use Rattle.operation_json.proofs.RunLoops.{follows_more, follows_all}
use Rattle.snapshot.proofs.gathered.unfold.Goals as goal

pub next_op-last-requires : goal.next_op-last-requires
next_op-last-requires c =
    let t = YieldsList-turn (YieldsList-from_chars c.as_str.result.now c.as_str.utf8 cc) c.loop-ch.yielded _ c.loop-ch.yielded_by _ _
    c.in-Some.ch c.in-Some.is c.next.ensures.steps in
    omega (arith, t.0, ap (length {A = ℕ}) c.as_str.ensures.value, ap (λ (g : Item). length g.more) c.item.view_is, c.loop-ch.invariant.few)

pub loop-ch-preserved : goal.loop-ch-preserved
loop-ch-preserved c =
    let t = YieldsList-turn (YieldsList-from_chars c.as_str.result.now c.as_str.utf8 cc) c.loop-ch.yielded _ c.loop-ch.yielded_by _ _
    c.in-Some.ch c.in-Some.is c.next.ensures.steps in
    let more = c.args.item.now.more in
    let i = length c.loop-ch.yielded in
    let told = c.as_str.ensures.value ∙ ap (λ (g : Item). g.more) c.item.view_is in
    let within : i < length more = subst (λ (cs : List ℕ). i < length cs) told t.0 in
    let next : c.in-Some.ch ≡ get_or more i c.in-Some.ch =
    subst (λ (cs : List ℕ). c.in-Some.ch ≡ get_or cs i c.in-Some.ch) told t.1 in
    record {
      whole = ap (λ n. c.push-in-loop-ch.new.self.items ++ typed_behind c.next_op-last.result (drop n more))
          (length_push c.loop-ch.yielded c.in-Some.ch)
          ∙ ap (λ items. items ++ typed_behind c.next_op-last.result (drop (i + 1) more)) c.in_ok-push-2.ensures.items
          ∙ ap (λ x. (c.loop-ch.ops.items ++ x ∷ []) ++ typed_behind x (drop (i + 1) more)) c.next_op-last.ensures.value
          ∙ follows_more c.loop-ch.last c.loop-ch.ops.items more i c.in-Some.ch _ within next c.loop-ch.invariant.whole;
      few = omega (
        arith,
        c.next_op-last.ensures.total,
        c.loop-ch.invariant.few,
        length_push c.loop-ch.yielded c.in-Some.ch,
      );
    }

pub returns-clause-told : goal.returns-clause-told
returns-clause-told c =
    let t = YieldsList-end (YieldsList-from_chars c.as_str.result.now c.as_str.utf8 cc) c.loop-ch.yielded _ c.loop-ch.yielded_by _ _
    c.in-None.is c.next.ensures.steps in
    let more = c.args.item.now.more in
    follows_all c.loop-ch.last c.loop-ch.ops.items more (length c.loop-ch.yielded) _
    (omega (arith, t.1, ap (length {A = ℕ}) c.as_str.ensures.value, ap (λ (g : Item). length g.more) c.item.view_is))
    c.loop-ch.invariant.whole
