-- Parts of lists that are gathered one item after another.
use Rattle.std.proofs.Common.{◌≡◌, ℕ, zero, suc, ◌+◌, ◌-◌, ◌<◌, ◌≤◌, Some, List, [], ◌∷◌, ◌++◌, length, get_or, take, drop, refl, ap, ap₂}
use Rattle.std.proofs.Common.{◌∙◌, sym, arith, append_assoc}
use Rattle.std.specs.Prelude.{slice_get}
use Rattle.std.proofs.lemmas.List.{append-nil, drop_more}
use Rattle.std.proofs.lemmas.Option.{slice_get_within, get_or_from_slice_get}

-- the item at a place, and those behind it
pub rest_at : {X : Type 0} (xs : List X) (n : ℕ) (x : X) → n < length xs → x ≡ get_or xs n x → drop n xs ≡ x ∷ drop (n + 1) xs
rest_at xs n x h e = drop_more xs n x h ∙ ap (λ y. y ∷ drop (n + 1) xs) (sym e)

pub take_none : {X : Type 0} (xs : List X) (n : ℕ) → n ≡ 0 → take n xs ≡ []
take_none [] zero e = refl
take_none [] (suc n) e = refl
take_none (x ∷ xs) n e = ap (λ k. take k (x ∷ xs)) e

-- from one place to another, of which the first is before the second
pub between_at : {X : Type 0} (xs : List X) (p end : ℕ) (x : X) → p < end → slice_get xs p ≡ Some x
    → take (end - p) (drop p xs) ≡ x ∷ take (end - (p + 1)) (drop (p + 1) xs)
between_at xs p end x h e = ap₂ (λ n ys. take n ys) size (rest_at xs p x (slice_get_within xs p x e)
    (sym (get_or_from_slice_get xs p x x e)))
  where
    size : end - p ≡ suc (end - (p + 1))
    size = omega (arith, h)

pub gathered : {X : Type 0} (xs made made' whole : List X) (p end : ℕ) (x : X) → p < end → slice_get xs p ≡ Some x
    → made ++ take (end - p) (drop p xs) ≡ whole → made' ≡ made ++ x ∷ []
    → made' ++ take (end - (p + 1)) (drop (p + 1) xs) ≡ whole
gathered xs made made' whole p end x h e so_far is =
    ap (λ ys. ys ++ take (end - (p + 1)) (drop (p + 1) xs)) is
    ∙ append_assoc made (x ∷ []) (take (end - (p + 1)) (drop (p + 1) xs))
    ∙ ap (λ ys. made ++ ys) (sym (between_at xs p end x h e))
    ∙ so_far

pub gathered_all : {X : Type 0} (xs made whole : List X) (p end : ℕ) → end ≤ p → made ++ take (end - p) (drop p xs) ≡ whole → made ≡ whole
gathered_all xs made whole p end h so_far =
    sym (append-nil made) ∙ ap (λ ys. made ++ ys) (sym (take_none (drop p xs) (end - p) (omega (arith, h)))) ∙ so_far
