-- The edits between two versions of a log lead from the reading of the one to that of the other.
use Rattle.std.proofs.Common.{◌≡◌, ℕ, zero, suc, Bool, ◌+◌, ◌-◌, ◌≤◌, Some, List, [], ◌∷◌, ◌++◌, length, take, drop, refl, ap, ◌∙◌}
use Rattle.std.proofs.Common.{sym, subst, arith, append_assoc}
use Rattle.std.specs.Prelude.{option_and_then}
use Rattle.std.proofs.lemmas.List.{append-nil, length-drop, length-take-le, take-append-le, drop-append-le}
use Rattle.std.proofs.Math.Seq.{take-add}
use Rattle.opid.specs.Operations.{Operation}
use Rattle.opid.specs.Reading.{reading, reading_at, reading_in, reading_in_at}
use Rattle.opid.specs.Splice.{play_in}
use Rattle.opid.specs.Edits.{edit_after_in, edits_from_in, edits_in}
use Rattle.opid.specs.Lawful.{GoesOn, IsLawful}
use Rattle.opid.proofs.Logs.{IsLawful-push, IsLawful-take, goes_on_after}
use Rattle.opid.proofs.Played.{edit_in-leads}

edits_from-length : (u : Bool) (ops xs : List Operation) → length (edits_from_in u ops xs) ≡ length xs
edits_from-length u ops [] = refl
edits_from-length u ops (x ∷ xs) = ap suc (edits_from-length u (ops ++ x ∷ []) xs)

pub edits_in-length : (u : Bool) (log : List Operation) → length (edits_in u log) ≡ length log
edits_in-length u log = edits_from-length u [] log

drop-edits : (u : Bool) (ops xs : List Operation) (i : ℕ) → drop i (edits_from_in u ops xs) ≡ edits_from_in u (ops ++ take i xs) (drop i xs)
drop-edits u ops [] zero = refl
drop-edits u ops [] (suc i) = refl
drop-edits u ops (x ∷ xs) zero = ap (λ (r : List Operation). edits_from_in u r (x ∷ xs)) (sym (append-nil ops))
drop-edits u ops (x ∷ xs) (suc i) =
    drop-edits u (ops ++ x ∷ []) xs i ∙ ap (λ (r : List Operation). edits_from_in u r (drop i xs)) (append_assoc ops (x ∷ []) (take i xs))

take-edits : (u : Bool) (ops xs : List Operation) (n : ℕ) → take n (edits_from_in u ops xs) ≡ edits_from_in u ops (take n xs)
take-edits u ops [] zero = refl
take-edits u ops [] (suc n) = refl
take-edits u ops (x ∷ xs) zero = refl
take-edits u ops (x ∷ xs) (suc n) = ap (λ r. edit_after_in u ops x ∷ r) (take-edits u (ops ++ x ∷ []) xs n)

played : (u : Bool) (ops xs : List Operation) → IsLawful ops → GoesOn ops xs
    → play_in u (reading_in u ops) (edits_from_in u ops xs) ≡ Some (reading_in u (ops ++ xs))
played u ops [] l g = ap (λ (r : List Operation). Some (reading_in u r)) (sym (append-nil ops))
played u ops (x ∷ xs) l g =
    ap (option_and_then (λ t. play_in u t (edits_from_in u (ops ++ x ∷ []) xs))) (edit_in-leads u ops x l g.0)
    ∙ played u (ops ++ x ∷ []) xs (IsLawful-push ops x l g.0) g.1
    ∙ ap (λ (r : List Operation). Some (reading_in u r)) (append_assoc ops (x ∷ []) xs)

-- the edits from one version on
pub plays : (u : Bool) (log : List Operation) (i n : ℕ) → IsLawful log
    → play_in u (reading_in_at u log i) (take n (drop i (edits_in u log))) ≡ Some (reading_in_at u log (i + n))
plays u log i n l =
    let whole : take i log ++ take n (drop i log) ≡ take (i + n) log = sym (take-add i n log) in
    let on : GoesOn (take i log) (take n (drop i log)) =
    goes_on_after [] (take i log) (take n (drop i log)) (subst IsLawful (sym whole) (IsLawful-take log (i + n) l)) in
    ap (play_in u (reading_in_at u log i)) (ap (take n) (drop-edits u [] log i) ∙ take-edits u (take i log) (drop i log) n)
    ∙ played u (take i log) (take n (drop i log)) (IsLawful-take log i l) on
    ∙ ap (λ (r : List Operation). Some (reading_in u r)) whole

edits_from-append : (u : Bool) (ops xs ys : List Operation)
    → edits_from_in u ops (xs ++ ys) ≡ edits_from_in u ops xs ++ edits_from_in u (ops ++ xs) ys
edits_from-append u ops [] ys = ap (λ (r : List Operation). edits_from_in u r ys) (sym (append-nil ops))
edits_from-append u ops (x ∷ xs) ys = ap (λ r. edit_after_in u ops x ∷ r)
    (edits_from-append u (ops ++ x ∷ []) xs ys
    ∙ ap (λ (r : List Operation). edits_from_in u (ops ++ x ∷ []) xs ++ edits_from_in u r ys) (append_assoc ops (x ∷ []) xs))

part-append : {X : Type 0} (xs ys : List X) (i n : ℕ) → i + n ≤ length xs → take n (drop i (xs ++ ys)) ≡ take n (drop i xs)
part-append xs ys i n h = ap (take n) (drop-append-le i xs ys (omega (arith, h)))
    ∙ take-append-le n (drop i xs) ys (omega (arith, h, length-drop i xs))

-- edits that a log has stay as it goes on
pub edits-stay : (u : Bool) (log more : List Operation) (i n : ℕ) → i + n ≤ length log
    → take n (drop i (edits_in u (log ++ more))) ≡ take n (drop i (edits_in u log))
edits-stay u log more i n h =
    ap (λ es. take n (drop i es)) (edits_from-append u [] log more)
    ∙ part-append (edits_in u log) (edits_from_in u log more) i n (omega (arith, h, edits_in-length u log))

-- and so do its versions
pub reading-stays : (log more : List Operation) (v : ℕ) → v ≤ length log → reading_at (log ++ more) v ≡ reading_at log v
reading-stays log more v h = ap reading (take-append-le v log more h)

pub length-between : (u : Bool) (log : List Operation) (i j : ℕ) → i ≤ j → j ≤ length log
    → length (take (j - i) (drop i (edits_in u log))) ≡ j - i
length-between u log i j h k = length-take-le (j - i) (drop i (edits_in u log))
    (omega (arith, h, k, length-drop i (edits_in u log), edits_in-length u log))
