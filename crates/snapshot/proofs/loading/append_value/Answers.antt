-- The value tells just what is read of it.
use Rattle.std.proofs.Common.{◌≡◌, ◌∙◌, ◌≤◌, ◌+◌, ◌++◌, ◌∷◌, ◌⊎◌, [], List, Result, Ok, ap, sym, subst, inl, inr, length}
use Rattle.std.proofs.lemmas.Result.{IfErr-weaker, on_ok_weaker}
use Rattle.serde_json.specs.View.{view}
use Rattle.opid.specs.declared.refusal.Refusal.{Refusal}
use Rattle.opid.specs.declared.refusal.Refusal.TheVariants.{Memory}
use Rattle.opid.specs.Lawful.{GoesOn}
use Rattle.opid.specs.Operations.{Operation}
use Rattle.operation_json.specs.Members.{◌>>=◌}
use Rattle.snapshot.specs.Internal.Values.{value_told}
use Rattle.snapshot.proofs.loading.append_value.Goals as goal

not_told : (e : Refusal) (old xs : List Operation) (told : Result (List Operation) Refusal) → told ≡ Ok xs
    → (e ≡ Memory) ⊎ (GoesOn old xs → length old + length xs ≤ 131072 → ⊥)
    → (e ≡ Memory) ⊎ ((ys : List Operation) → told ≡ Ok ys → GoesOn old ys → length old + length ys ≤ 131072 → ⊥)
not_told e old xs told is (inl memory) = inl memory
not_told e old xs told is (inr not) = inr (λ ys at.
    let same : xs ≡ ys = cc in
    subst (λ (zs : List Operation). GoesOn old zs → length old + length zs ≤ 131072 → ⊥) same not)

pub returns-in_ok-ops-clause-grown : goal.returns-in_ok-ops-clause-grown
returns-in_ok-ops-clause-grown c =
    on_ok_weaker c.append_operations.result (λ grown. (
      c.in_ok-ops.ops.items,
      ap (λ runs. value_told runs (view c.args.value.now)) c.if-runs.true ∙ c.in_ok-ops.ensures,
      grown ∙ ap (λ xs. c.args.doc.now.log ++ xs) c.as_slice.ensures.value,
    )) c.append_operations.ensures.grown

pub returns-in_ok-op-clause-grown : goal.returns-in_ok-op-clause-grown
returns-in_ok-op-clause-grown c =
    on_ok_weaker c.append_operations-else-runs.result (λ grown. (
      c.in_ok-op.op ∷ [],
      ap (λ runs. value_told runs (view c.args.value.now)) c.if-runs.false
          ∙ ap (λ (r : Result Operation Refusal). r >>= λ x. Ok (x ∷ [])) (sym c.in_ok-op.ensures),
      grown,
    )) c.append_operations-else-runs.ensures.grown

pub returns-in_ok-ops-clause-cause : goal.returns-in_ok-ops-clause-cause
returns-in_ok-ops-clause-cause c =
    IfErr-weaker c.append_operations.result _ _ (λ e. not_told e c.args.doc.now.log c.as_slice.result.now
    (value_told c.args.runs (view c.args.value.now))
    (ap (λ runs. value_told runs (view c.args.value.now)) c.if-runs.true ∙ c.in_ok-ops.ensures ∙ ap Ok (sym c.as_slice.ensures.value)))
    c.append_operations.ensures.cause

pub returns-in_ok-op-clause-cause : goal.returns-in_ok-op-clause-cause
returns-in_ok-op-clause-cause c =
    IfErr-weaker c.append_operations-else-runs.result _ _ (λ e. not_told e c.args.doc.now.log (c.in_ok-op.op ∷ [])
    (value_told c.args.runs (view c.args.value.now))
    (ap (λ runs. value_told runs (view c.args.value.now)) c.if-runs.false
    ∙ ap (λ (r : Result Operation Refusal). r >>= λ x. Ok (x ∷ [])) (sym c.in_ok-op.ensures)))
    c.append_operations-else-runs.ensures.cause
