-- The next of operations that may follow may follow.
use Rattle.std.proofs.Common.{◌≡◌, ◌<◌, ◌≤◌, ◌+◌, ◌⊎◌, inl, inr, length, rules}
use Rattle.opid.specs.declared.refusal.Refusal.TheVariants.{Memory}
use Rattle.opid.specs.Lawful.{MayFollow, GoesOn}
use Rattle.snapshot.proofs.Loaded.{may_next}
use Rattle.snapshot.proofs.loading.append_operations.Goals as goal

pub returns-in_err-append-clause-cause : goal.returns-in_err-append-clause-cause
returns-in_err-append-clause-cause c =
    let old = c.args.doc.now.log in
    let ops = c.args.ops.now in
    let front = c.loop-op.doc.log in
    let x = c.op-item.result in
    let err : (c.in_err-append.field-0.0 ≡ Memory) ⊎ (MayFollow front x → length front < 131072 → ⊥) = c.in_err-append.ensures.cause in
    let why : (c.in_err-append.field-0.0 ≡ Memory) ⊎ (GoesOn old ops → length old + length ops ≤ 131072 → ⊥) =
    elim err [
      | inl m ↦ inl m
      | inr not ↦ inr (λ goes few.
          let both = may_next old ops front c.loop-op.op-index x c.loop-op-test.true c.op-item.is c.loop-op.invariant.grown goes few in
          not both.0 both.1)
    ] in
    search (rules, why)
