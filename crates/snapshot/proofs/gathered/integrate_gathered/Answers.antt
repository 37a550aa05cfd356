-- The next of a lawful log may follow those before it, so what may not is no log's.
use Rattle.std.proofs.Common.{◌≡◌, ◌∙◌, ◌≤◌, ◌+◌, ◌++◌, ◌⊎◌, ap, drop, inl, inr, length}
use Rattle.std.proofs.lemmas.Result.{err_from_is_err_and}
use Rattle.opid.specs.declared.refusal.Refusal.TheVariants.{Memory}
use Rattle.opid.specs.Lawful.{IsLawful, GoesOn}
use Rattle.operation_json.specs.Packing.{unfolded, unfolded_all}
use Rattle.snapshot.proofs.Gathering.{all_integrated, item_refuted, one_more}
use Rattle.snapshot.proofs.gathered.integrate_gathered.Goals as goal

pub returns-in_err-append_item-clause-cause : goal.returns-in_err-append_item-clause-cause
returns-in_err-append_item-clause-cause c =
    let items = c.args.items.now in
    let front = c.loop-item.doc.log in
    let g = c.item-item.result in
    let err : (c.in_err-append_item.field-0.0 ≡ Memory) ⊎ (GoesOn front (unfolded g) → length front + length (unfolded g) ≤ 131072 → ⊥) =
    c.in_err-append_item.ensures.cause in
    let why : (c.in_err-append_item.field-0.0 ≡ Memory) ⊎ (IsLawful (unfolded_all items) → length (unfolded_all items) ≤ 131072 → ⊥) =
    elim err [
      | inl m ↦ inl m
      | inr not ↦ inr (λ lawful few.
          item_refuted front items c.loop-item.item-index g c.loop-item-test.true c.item-item.is c.loop-item.invariant.told not lawful few)
    ] in
    let p = err_from_is_err_and c.from_residual.result c.from_residual.ensures.1 in
    rw (p.1, p.2) why

pub loop-item-preserved : goal.loop-item-preserved
loop-item-preserved c =
    let items = c.args.items.now in
    let i = c.loop-item.item-index in
    record {
      told = ap (λ log. log ++ unfolded_all (drop (i + 1) items)) c.in_ok-append_item.ensures.grown
          ∙ one_more c.loop-item.doc.log items i c.item-item.result (unfolded_all items) c.loop-item-test.true c.item-item.is
          c.loop-item.invariant.told;
      unreserved = c.in_ok-append_item.ensures.unreserved c.loop-item.invariant.unreserved;
    }

pub returns-clause-told : goal.returns-clause-told
returns-clause-told c =
    all_integrated c.loop-item.doc.log c.args.items.now c.loop-item.item-index (unfolded_all c.args.items.now) c.loop-item-test.false
    c.loop-item.invariant.told
