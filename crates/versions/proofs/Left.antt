-- What a walk through a log has left.
use Rattle.std.proofs.Common.{◌≡◌, ℕ, ◌+◌, ◌<◌, List, ◌∷◌, Some, length, get_or, drop, ap, ◌∙◌, sym, arith}
use Rattle.std.specs.Prelude.{slice_get}
use Rattle.std.proofs.lemmas.List.{length-drop, drop_more}
use Rattle.std.proofs.lemmas.Option.{slice_get-get_or}
use Rattle.opid.specs.Operations.{Operation}

-- what a walk gives is the operation at its place, and it goes on behind it
pub left_after : (log : List Operation) (n : ℕ) (x : Operation) (rest : List Operation) → drop n log ≡ x ∷ rest
    → (slice_get log n ≡ Some x) × (rest ≡ drop (n + 1) log)
left_after log n x rest e =
    let within : n < length log = omega (arith, length-drop n log, ap (length {A = Operation}) e) in
    let same : x ∷ rest ≡ get_or log n x ∷ drop (n + 1) log = sym e ∙ drop_more log n x within in (
      slice_get-get_or log n x within ∙ ap (λ (y : Operation). Some y) (sym (ap (λ (l : List Operation). get_or l 0 x) same)),
      ap (λ (l : List Operation). drop 1 l) same,
    )

-- before the end of the log something is left
pub some_left : (log rest : List Operation) (n : ℕ) → rest ≡ drop n log → n < length log → 0 < length rest
some_left log rest n e l = omega (arith, l, length-drop n log, ap (length {A = Operation}) e)
