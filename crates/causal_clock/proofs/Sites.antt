-- A test of every site, site by site.
use Rattle.std.proofs.Common.{◌≡◌, ℕ, zero, suc, ◌+◌, ◌*◌, ◌^◌, ◌%◌, ◌<◌, ◌≤◌, ◌⊎◌, inl, inr, Bool, true, false, cond, ◌∙◌}
use Rattle.std.proofs.Common.{refl, ap, subst, sym, arith, ◌&&◌, ◌||◌, List, length, get_or, eqb, ltb, eqb-true, eq-eqb, w64, bit_and}
use lib.Lanes.{mask_l, zip2}
use Rattle.std.specs.Prelude.{◌==◌, nat_le}
use Rattle.std.specs.Int.{bit_at, bit_not, trailing_zeros}
use Rattle.std.specs.List.{range_with_len, list_all}
use Rattle.std.proofs.lemmas.Bool.{false_from_ne_true, cases_eq, cases_lt}
use Rattle.std.proofs.lemmas.Bool.Decides.{nat_tests}
use Rattle.std.proofs.lemmas.Nat.{and_le_l}
use Rattle.std.proofs.lemmas.Nat.Bits.{bit_at-trailing_zeros, bit_at_clear_same, bit_at_clear_other, bit_at_above, bit_at-zero}
use Rattle.std.proofs.lemmas.Simd.{length-zip2, get_or-zip2, mask_l-lt, mask_l-mod, bit_mask_l}
use Rattle.opid.specs.Clocks.{sites, entry, covers_others}
use Rattle.opid.proofs.Counts.{each_site}

and_false : (b : Bool) → (b && false) ≡ false
and_false true = refl
and_false false = refl

pub list_all-range_false : (f : ℕ → Bool) (a n k : ℕ) → k < n → f (a + k) ≡ false → list_all f (range_with_len a n) ≡ false
list_all-range_false f a zero k l h = absurd (omega arith)
list_all-range_false f a (suc n) zero l h = ap (λ b. b && list_all f (range_with_len (a + 1) n)) (subst (λ j. f j ≡ false) (omega arith) h)
list_all-range_false f a (suc n) (suc k) l h =
    let e : a + suc k ≡ (a + 1) + k = omega arith in
    ap (λ b. f a && b) (list_all-range_false f (a + 1) n k (omega arith) (subst (λ j. f j ≡ false) e h)) ∙ and_false (f a)

pub uncovered : (k own a b : ℕ) → (k ≡ own → ⊥) → b < a → (k == own || nat_le a b) ≡ false
uncovered k own a b d l = ap (λ t. t || nat_le a b) (false_from_ne_true (eqb k own) (λ q. d (eqb-true k own q))) ∙ grind (arith, nat_tests)

pub covered : (own o : ℕ) (xs ys a b : List ℕ) → own ≡ o → xs ≡ a → ys ≡ b
    → ((k : ℕ) → k < 32 → (k == own || nat_le (entry xs k) (entry ys k)) ≡ true) → true ≡ covers_others o a b
unfolding sites
covered own o xs ys a b e f g h =
    subst (λ v. true ≡ covers_others v a b) e (subst (λ v. true ≡ covers_others own v b) f (subst (λ v. true ≡ covers_others own xs v) g
    (sym (each_site (λ k. k == own || nat_le (entry xs k) (entry ys k)) 0 32
    (λ k l. let e : k ≡ 0 + k = omega arith in subst (λ j. (j == own || nat_le (entry xs j) (entry ys j)) ≡ true) e (h k l))))))

pub not_covered : (own o : ℕ) (xs ys a b : List ℕ) (k : ℕ) → own ≡ o → xs ≡ a → ys ≡ b → k < 32 → (k ≡ own → ⊥) → entry ys k < entry xs k
    → false ≡ covers_others o a b
unfolding sites
not_covered own o xs ys a b k e f g l d m =
    subst (λ v. false ≡ covers_others v a b) e (subst (λ v. false ≡ covers_others own v b) f (subst (λ v. false ≡ covers_others own xs v) g
    (sym (list_all-range_false (λ j. j == own || nat_le (entry xs j) (entry ys j)) 0 32 k l
    (let e : k ≡ 0 + k = omega arith in subst (λ j. (j == own || nat_le (entry xs j) (entry ys j)) ≡ false) e
    (uncovered k own (entry xs k) (entry ys k) d m))))))

-- ---- the same by the bits of a comparison

-- a bit as a number
abbrev bit_of : Bool → ℕ
bit_of t = cond t 1 0

not_above : (a b : ℕ) → bit_of (ltb b a) ≡ 0 → nat_le a b ≡ true
not_above a b h = go (ltb b a) refl h
  where
    go : (t : Bool) → ltb b a ≡ t → bit_of t ≡ 0 → nat_le a b ≡ true
    go true e h = absurd (omega (arith, h))
    go false e h = grind (arith, nat_tests)

is_above : (a b : ℕ) → bit_of (ltb b a) ≡ 1 → b < a
is_above a b h = go (ltb b a) refl h
  where
    go : (t : Bool) → ltb b a ≡ t → bit_of t ≡ 1 → b < a
    go true e h = grind (arith, nat_tests)
    go false e h = absurd (omega (arith, h))

or_true : (t : Bool) {u : Bool} → u ≡ true → (t || u) ≡ true
or_true true e = refl
or_true false e = e

positive : (n : ℕ) → eqb n 0 ≡ false → 0 < n
positive n e = grind (arith, nat_tests)

-- where no bit is left of those that tell which counts are above, but for the own site's, each is covered
pub covers_by_bits : (own : ℕ) (xs ys : List ℕ) (m : ℕ) → own < 32 → length xs ≡ 32 → length ys ≡ 32
    → m ≡ mask_l (zip2 (λ a b. ltb a b) ys xs) % 2 ^ 64
    → eqb (bit_and m (bit_not w64 (1 * 2 ^ own % 2 ^ 64))) 0 ≡ covers_others own xs ys
covers_by_bits own xs ys m o lx ly e = go (eqb (bit_and m (bit_not w64 (1 * 2 ^ own % 2 ^ 64))) 0) refl
  where
    few : m < 2 ^ 32
    few =
        let long : length (zip2 (λ (a b : ℕ). ltb a b) ys xs) ≡ 32 = length-zip2 (λ (a b : ℕ). ltb a b) ys xs (ly ∙ sym lx) ∙ ly in
        subst (λ k. k < 2 ^ 32) (sym (e ∙ mask_l-mod (zip2 (λ (a b : ℕ). ltb a b) ys xs) 64 (omega (arith, long))))
        (subst (λ k. mask_l (zip2 (λ (a b : ℕ). ltb a b) ys xs) < 2 ^ k) long (mask_l-lt (zip2 (λ (a b : ℕ). ltb a b) ys xs)))

    bit : (k : ℕ) → k < 32 → bit_at m k ≡ bit_of (ltb (get_or ys k 0) (get_or xs k 0))
    bit k l =
        let long : length (zip2 (λ (a b : ℕ). ltb a b) ys xs) ≡ 32 = length-zip2 (λ (a b : ℕ). ltb a b) ys xs (ly ∙ sym lx) ∙ ly in
        ap (λ v. bit_at v k) (e ∙ mask_l-mod (zip2 (λ (a b : ℕ). ltb a b) ys xs) 64 (omega (arith, long)))
        ∙ bit_mask_l (zip2 (λ (a b : ℕ). ltb a b) ys xs) k
        ∙ ap bit_of (get_or-zip2 (λ (a b : ℕ). ltb a b) ys xs k 0 0 false (omega (arith, l, ly)) (omega (arith, l, lx)))

    each : bit_and m (bit_not w64 (1 * 2 ^ own % 2 ^ 64)) ≡ 0 → (k : ℕ) → k < 32 → (k ≡ own) ⊎ (k ≡ own → ⊥)
        → (k == own || nat_le (entry xs k) (entry ys k)) ≡ true
    each none k l (inl s) = ap (λ t. t || nat_le (entry xs k) (entry ys k)) (eq-eqb k own s)
    each none k l (inr d) =
        let clear : bit_at m k ≡ 0 = sym (bit_at_clear_other w64 m own (omega (arith, o)) k (omega (arith, l)) d)
        ∙ ap (λ v. bit_at v k) none ∙ bit_at-zero k in
        or_true (k == own) (not_above (get_or xs k 0) (get_or ys k 0) (sym (bit k l) ∙ clear))

    one : (r : ℕ) → r ≡ bit_and m (bit_not w64 (1 * 2 ^ own % 2 ^ 64)) → 0 < r → false ≡ covers_others own xs ys
    one r f some =
        let low = bit_at-trailing_zeros w64 r some (omega (arith, few, and_le_l m (bit_not w64 (1 * 2 ^ own % 2 ^ 64)), f)) in
        let k = trailing_zeros w64 r in
        at k low.0 low.1 (cases_eq k own) (cases_lt k 32)
      where
        at : (k : ℕ) → k < 64 → bit_at r k ≡ 1 → (k ≡ own) ⊎ (k ≡ own → ⊥) → (k < 32) ⊎ (32 ≤ k) → false ≡ covers_others own xs ys
        at k l s (inl q) within =
            absurd (omega (arith, s, ap (bit_at r) q, ap (λ v. bit_at v own) f, bit_at_clear_same w64 m own (omega (arith, o))))
        at k l s (inr d) (inl within) =
            let set : bit_at m k ≡ 1 = sym (bit_at_clear_other w64 m own (omega (arith, o)) k l d) ∙ ap (λ v. bit_at v k) (sym f) ∙ s in
            not_covered own own xs ys xs ys k refl refl refl within d
            (is_above (get_or xs k 0) (get_or ys k 0) (sym (bit k within) ∙ set))
        at k l s (inr d) (inr past) =
            let set : bit_at m k ≡ 1 = sym (bit_at_clear_other w64 m own (omega (arith, o)) k l d) ∙ ap (λ v. bit_at v k) (sym f) ∙ s in
            absurd (omega (arith, set, bit_at_above m 32 k few past))

    go : (t : Bool) → eqb (bit_and m (bit_not w64 (1 * 2 ^ own % 2 ^ 64))) 0 ≡ t → t ≡ covers_others own xs ys
    go true h =
        let none : bit_and m (bit_not w64 (1 * 2 ^ own % 2 ^ 64)) ≡ 0 = eqb-true (bit_and m (bit_not w64 (1 * 2 ^ own % 2 ^ 64))) 0 h in
        covered own own xs ys xs ys refl refl refl (λ k l. each none k l (cases_eq k own))
    go false h = one (bit_and m (bit_not w64 (1 * 2 ^ own % 2 ^ 64))) refl
        (positive (bit_and m (bit_not w64 (1 * 2 ^ own % 2 ^ 64))) h)
