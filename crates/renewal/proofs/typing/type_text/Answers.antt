use Rattle.std.proofs.Common.{◌≡◌, ◌<◌, ◌≤◌, ◌+◌, ◌++◌, inl, inr, [], ◌∷◌, Some, ◌∙◌, ap, length, sum, arith, rules, subst, sym}
use Rattle.std.specs.Str.{chars}
use Rattle.std.specs.List.{AllByRecursion}
use Rattle.std.proofs.lemmas.Iterator.{YieldsList-from_chars}
use Rattle.std.proofs.lemmas.Iterator.Consumers.{YieldsList-turn, YieldsList-end}
use Rattle.std.proofs.lemmas.List.{length_push}
use Rattle.opid.specs.declared.kind.OpKind.TheVariants.{Ins}
use Rattle.opid.specs.declared.refusal.Refusal.TheVariants.{Memory}
use Rattle.opid.specs.Clocks.{raised}
use Rattle.opid.specs.Operations.{Operation}
use Rattle.opid.specs.Lawful.{IsLawful, MayFollow}
use Rattle.opid.specs.Reading.{reading}
use Rattle.opid.proofs.Counts.{sum-clock_of}
use Rattle.opid.proofs.Logs.{IsLawful-push}
use Rattle.renewal.specs.Typing.{typing_of}
use Rattle.renewal.proofs.Typed.{with_rest, next_typed, typed_more, typed_all, typed_follows, typing-reading, typing-length, typing-site}
use Rattle.renewal.proofs.typing.type_text.Goals as goal

pub next-op-requires : goal.next-op-requires
next-op-requires c =
    let t = YieldsList-turn (YieldsList-from_chars c.args.text.now c.utf8.text cc) c.loop-ch.yielded _ c.loop-ch.yielded_by _ _ c.in-Some.ch
    c.in-Some.is c.next.ensures.steps in
    omega (
      arith,
      t.0,
      c.loop-ch.invariant.few,
      c.loop-ch.invariant.count,
      ap sum c.known.ensures,
      sum-clock_of c.loop-ch.doc.log c.loop-ch.invariant.lawful,
    )

pub loop-ch-preserved : goal.loop-ch-preserved
loop-ch-preserved c =
    let t = YieldsList-turn (YieldsList-from_chars c.args.text.now c.utf8.text cc) c.loop-ch.yielded _ c.loop-ch.yielded_by _ _ c.in-Some.ch
    c.in-Some.is c.next.ensures.steps in
    let cs = chars c.args.text.now in
    let log = c.loop-ch.doc.log in
    let n = length c.loop-ch.yielded in
    let op : Operation = c.next-op.result in
    let b : c.args.site < 32 = omega (arith, c.number.ensures.value, c.number.ensures.range) in
    let is : op ≡ next_typed log c.args.site c.loop-ch.parent c.in-Some.ch =
    c.next-op.ensures.value
    ∙ ap (λ w. let x : Operation = record { site = c.args.site; clock = raised w c.args.site; kind = Ins c.loop-ch.parent c.in-Some.ch }
    in x) c.known.ensures in
    let follows : MayFollow log op = typed_follows log c.args.site c.loop-ch.parent cs n c.in-Some.ch op b t.0 t.1 is
    c.loop-ch.invariant.whole in
    let grown : c.append_operations.new.doc.log ≡ log ++ op ∷ [] = c.in_ok-append_operations.ensures.grown in
    let up : length (c.loop-ch.yielded ++ c.in-Some.ch ∷ []) ≡ n + 1 = length_push c.loop-ch.yielded c.in-Some.ch in
    record {
      whole = ap (λ k. with_rest c.args.site cs c.append_operations.new.doc.log (Some c.stamp.result) k) up
          ∙ typed_more log c.append_operations.new.doc.log c.args.site c.loop-ch.parent (Some c.stamp.result) cs n c.in-Some.ch op
          (typing_of c.args.site cs) b t.0 t.1 is (ap Some c.stamp.ensures) grown c.loop-ch.invariant.whole;
      lawful = subst IsLawful (sym grown) (IsLawful-push log op c.loop-ch.invariant.lawful follows);
      count = omega (arith, ap (length {A = Operation}) grown, length_push log op, up, c.loop-ch.invariant.count);
      few = c.loop-ch.invariant.few;
      unreserved = c.in_ok-append_operations.ensures.unreserved c.loop-ch.invariant.unreserved;
    }

pub returns-in_err-append_operations-clause-cause : goal.returns-in_err-append_operations-clause-cause
returns-in_err-append_operations-clause-cause c =
    let t = YieldsList-turn (YieldsList-from_chars c.args.text.now c.utf8.text cc) c.loop-ch.yielded _ c.loop-ch.yielded_by _ _ c.in-Some.ch
    c.in-Some.is c.next.ensures.steps in
    let cs = chars c.args.text.now in
    let log = c.loop-ch.doc.log in
    let op : Operation = c.next-op.result in
    let b : c.args.site < 32 = omega (arith, c.number.ensures.value, c.number.ensures.range) in
    let is : op ≡ next_typed log c.args.site c.loop-ch.parent c.in-Some.ch =
    c.next-op.ensures.value
    ∙ ap (λ w. let x : Operation = record { site = c.args.site; clock = raised w c.args.site; kind = Ins c.loop-ch.parent c.in-Some.ch }
    in x) c.known.ensures in
    let follows : MayFollow log op = typed_follows log c.args.site c.loop-ch.parent cs (length c.loop-ch.yielded) c.in-Some.ch op b t.0 t.1
    is c.loop-ch.invariant.whole in
    let few : length cs ≤ 131072 = c.loop-ch.invariant.few in
    let why : c.in_err-append_operations.field-0.0 ≡ Memory =
    elim c.in_err-append_operations.ensures.cause [
      | inl m ↦ m
      | inr not ↦ absurd (not (follows, tt) (omega (arith, t.0, c.loop-ch.invariant.few, c.loop-ch.invariant.count)))
    ] in
    search (rules, why, few)

pub returns-clause-log : goal.returns-clause-log
returns-clause-log c =
    let t = YieldsList-end (YieldsList-from_chars c.args.text.now c.utf8.text cc) c.loop-ch.yielded _ c.loop-ch.yielded_by _ _ c.in-None.is
    c.next.ensures.steps in
    typed_all c.loop-ch.doc.log c.args.site c.loop-ch.parent (chars c.args.text.now) (length c.loop-ch.yielded)
    (typing_of c.args.site (chars c.args.text.now)) (omega (arith, t.1)) c.loop-ch.invariant.whole

pub returns-clause-reading : goal.returns-clause-reading
returns-clause-reading c =
    let b : c.args.site < 32 = omega (arith, c.number.ensures.value, c.number.ensures.range) in
    ap reading (returns-clause-log c) ∙ typing-reading c.args.site (chars c.args.text.now) b

pub returns-clause-site : goal.returns-clause-site
returns-clause-site c =
    subst (AllByRecursion (λ x. x.site ≡ c.args.site)) (sym (returns-clause-log c)) (typing-site c.args.site (chars c.args.text.now))

pub returns-clause-count : goal.returns-clause-count
returns-clause-count c =
    ap (length {A = Operation}) (returns-clause-log c) ∙ typing-length c.args.site (chars c.args.text.now)
