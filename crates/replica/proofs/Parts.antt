-- The part of a log that is told.
use Rattle.std.proofs.Common.{◌≡◌, ℕ, ◌+◌, ◌-◌, ◌<◌, ◌≤◌, ◌⊎◌, inl, inr, false, List, Ok, length, take, drop, ap}
use Rattle.std.proofs.Common.{◌∙◌, sym, arith}
use Rattle.std.specs.Prelude.{min, nat_lt, ◌==◌, ◌||◌}
use Rattle.std.proofs.lemmas.Bool.{cond-false, cases_lt}
use Rattle.std.proofs.lemmas.Bool.Decides.{nat_tests}
use Rattle.std.proofs.lemmas.List.{length-drop, take_all}
use Rattle.opid.specs.Operations.{Operation}
use Rattle.opid.specs.Delivered.{part_of}

-- the part up to its end
pub part_of_end : (log : List Operation) (after max end : ℕ) → after ≤ length log → 0 < max → max ≤ 64
    → end ≡ min (length log) (after + max) → part_of log after max ≡ Ok (take (end - after) (drop after log))
part_of_end log after max end l p m e = cond-false _ _ _ accepted ∙ ap Ok (go (cases_lt (length log) (after + max)))
  where
    accepted : (nat_lt (length log) after || (max == 0 || nat_lt 64 max)) ≡ false
    accepted = grind (arith, nat_tests)

    go : (length log < after + max) ⊎ (after + max ≤ length log) → take max (drop after log) ≡ take (end - after) (drop after log)
    go (inl q) =
        take_all max (drop after log) (omega (arith, length-drop after log, q))
        ∙ sym (take_all (end - after) (drop after log) (omega (arith, length-drop after log, q, e)))
    go (inr q) = ap (λ k. take k (drop after log)) (omega (arith, q, e))
