-- The pairs of a clock's entries that aren't 0 are a listing, and tell that clock.
use Rattle.std.proofs.Common.{◌≡◌, ℕ, zero, suc, ◌+◌, ◌<◌, ◌≤◌, ◌⊎◌, inl, inr, ◌^◌, List, [], ◌∷◌, length, sum, map, Bool, true, false}
use Rattle.std.proofs.Common.{cond, refl, sym, ap, ◌∙◌, arith, eqb, eqb-true, eq-eqb}
use Rattle.std.specs.Prelude.{nat_lt}
use Rattle.std.specs.List.{AllByRecursion as Each, range_with_len, sum_by}
use Rattle.std.proofs.lemmas.Bool.{cases_eq, cond-true, cond-false, false_from_ne_true, ltb-true, lt-ltb}
use Rattle.std.proofs.lemmas.List.FromFn.{fill_by_all}
use Rattle.std.proofs.lemmas.List.Sums.{sum_by-cons, sum-map}
use Rattle.opid.specs.Clocks.{sites, entry}
use Rattle.opid.specs.Kinds.{IsClock}
use Rattle.causal_clock.specs.Listing.{count_in, clock_with}
use Rattle.opid.specs.Internal.RisingPairs.{AreRising}
use Rattle.causal_clock.proofs.Listings.{IsListing}
use Rattle.operation_json.specs.Text.{pairs_of}
use Rattle.operation_json.proofs.Clocks.{pair_at, pairs_from}

by_case : {A : Type 0} (P : List A → Type 0) (b : Bool) (x : A) (xs : List A) → (b ≡ true → P (x ∷ xs)) → (b ≡ false → P xs)
    → P (cond b (x ∷ xs) xs)
by_case P true x xs kept dropped = kept refl
by_case P false x xs kept dropped = dropped refl

-- a fact of each site's pair where its entry isn't 0, for the sites from a on
all_pairs : (clock : List ℕ) (P : ℕ × ℕ → Type 0) (n a : ℕ) → ((s : ℕ) → a ≤ s → s < a + n → 0 < entry clock s → P (pair_at clock s))
    → Each P (pairs_from clock a n)
all_pairs clock P zero a h = tt
all_pairs clock P (suc n) a h =
    step (all_pairs clock P n (a + 1) (λ s l u m. h s (omega arith) (omega arith) m))
  where
    step : Each P (pairs_from clock (a + 1) n) → Each P (pairs_from clock a (suc n))
    step rest =
        by_case (Each P) (nat_lt 0 (entry clock a)) (pair_at clock a) (pairs_from clock (a + 1) n)
        (λ t. (h a (omega arith) (omega arith) (ltb-true 0 (entry clock a) t), rest))
        (λ t. rest)

rising : (clock : List ℕ) (n a : ℕ) → AreRising (pairs_from clock a n)
rising clock zero a = tt
rising clock (suc n) a = step (rising clock n (a + 1))
  where
    step : AreRising (pairs_from clock (a + 1) n) → AreRising (pairs_from clock a (suc n))
    step rest =
        by_case AreRising (nat_lt 0 (entry clock a)) (pair_at clock a) (pairs_from clock (a + 1) n)
        (λ t. (all_pairs clock (λ q. a < q.0) n (a + 1) (λ s l u m. omega arith), rest))
        (λ t. rest)

zero_from : (m : ℕ) → nat_lt 0 m ≡ false → m ≡ 0
zero_from zero t = refl
zero_from (suc m) t = let more : nat_lt 0 (suc m) ≡ true = lt-ltb 0 (suc m) (omega arith) in cc

total : (clock : List ℕ) (n a : ℕ) → sum_by (λ p. p.1) (pairs_from clock a n) ≡ sum_by (entry clock) (range_with_len a n)
total clock zero a = refl
total clock (suc n) a = step (total clock n (a + 1))
  where
    more : sum_by (entry clock) (range_with_len a (suc n)) ≡ entry clock a + sum_by (entry clock) (range_with_len (a + 1) n)
    more = sum_by-cons (entry clock) a (range_with_len (a + 1) n)

    step : sum_by (λ p. p.1) (pairs_from clock (a + 1) n) ≡ sum_by (entry clock) (range_with_len (a + 1) n)
        → sum_by (λ p. p.1) (pairs_from clock a (suc n)) ≡ sum_by (entry clock) (range_with_len a (suc n))
    step rest =
        by_case (λ ps. sum_by (λ p. p.1) ps ≡ sum_by (entry clock) (range_with_len a (suc n))) (nat_lt 0 (entry clock a)) (pair_at clock a)
        (pairs_from clock (a + 1) n)
        (λ t. sum_by-cons (λ (p : ℕ × ℕ). p.1) (pair_at clock a) (pairs_from clock (a + 1) n) ∙ ap (λ m. entry clock a + m) rest ∙ sym more)
        (λ t. let none : entry clock a ≡ 0 = zero_from (entry clock a) t in rest ∙ omega (arith, none, more))

count_in_none : (ps : List (ℕ × ℕ)) (s : ℕ) → Each (λ p. s < p.0) ps → count_in ps s ≡ 0
count_in_none [] s h = refl
count_in_none (p ∷ ps) s h = cond-false _ _ _ (false_from_ne_true (eqb p.0 s)
    (λ t. let same = eqb-true p.0 s t in omega (arith, same, h.0))) ∙ count_in_none ps s h.1

count_in_pairs : (clock : List ℕ) (n a s : ℕ) → a ≤ s → s < a + n → count_in (pairs_from clock a n) s ≡ entry clock s
count_in_pairs clock zero a s l u = absurd (omega arith)
count_in_pairs clock (suc n) a s l u = go (cases_eq a s) (λ m. count_in_pairs clock n (a + 1) s m (omega arith))
  where
    none : nat_lt 0 (entry clock a) ≡ false → a ≡ s → count_in (pairs_from clock (a + 1) n) s ≡ entry clock s
    none t e =
        count_in_none (pairs_from clock (a + 1) n) s (all_pairs clock (λ p. s < p.0) n (a + 1) (λ k m v w. omega (arith, e)))
        ∙ sym (ap (entry clock) (sym e) ∙ zero_from (entry clock a) t)

    reach : (a ≡ s → ⊥) → a + 1 ≤ s
    reach d = omega (arith, d)

    go : (a ≡ s) ⊎ (a ≡ s → ⊥) → (a + 1 ≤ s → count_in (pairs_from clock (a + 1) n) s ≡ entry clock s)
        → count_in (pairs_from clock a (suc n)) s ≡ entry clock s
    go (inl e) later =
        by_case (λ ps. count_in ps s ≡ entry clock s) (nat_lt 0 (entry clock a)) (pair_at clock a) (pairs_from clock (a + 1) n)
        (λ t. cond-true _ _ _ (eq-eqb a s e) ∙ ap (entry clock) e)
        (λ t. none t e)
    go (inr d) later =
        by_case (λ ps. count_in ps s ≡ entry clock s) (nat_lt 0 (entry clock a)) (pair_at clock a) (pairs_from clock (a + 1) n)
        (λ t. cond-false _ _ _ (false_from_ne_true (eqb a s) (λ q. d (eqb-true a s q))) ∙ later (reach d))
        (λ t. later (reach d))

-- a clock is its entries at the sites
entries : (clock : List ℕ) → length clock ≡ 32 → clock ≡ map (entry clock) (range_with_len 0 32)
entries clock w = fill_by_all (entry clock) clock 32 0 w (λ k l. refl)

pub listing_of : (clock : List ℕ) → IsClock clock → IsListing (pairs_of clock)
unfolding sites
listing_of clock h =
    let whole : sum_by (λ p. p.1) (pairs_from clock 0 32) ≡ sum clock =
    total clock 32 0 ∙ sym (sum-map (entry clock) (range_with_len 0 32)) ∙ ap sum (sym (entries clock h.width)) in
    record {
      rising = rising clock 32 0;
      counted = all_pairs clock (λ p. 0 < p.1) 32 0 (λ s l u m. m);
      limit = omega (arith, whole, h.limit);
    }

pub clock_with_pairs : (clock : List ℕ) → IsClock clock → clock_with (pairs_of clock) ≡ clock
unfolding sites
clock_with_pairs clock h = sym (fill_by_all (count_in (pairs_from clock 0 32)) clock 32 0 h.width
    (λ k l. sym (count_in_pairs clock 32 0 k (omega arith) (omega arith))))

pub pairs_sited : (clock : List ℕ) → Each (λ p. p.0 < 32) (pairs_of clock)
unfolding sites
pairs_sited clock = all_pairs clock (λ p. p.0 < 32) 32 0 (λ s l u m. omega arith)

within_sum : (m : ℕ) (ps : List (ℕ × ℕ)) → sum_by (λ p. p.1) ps ≤ m → Each (λ p. p.1 ≤ m) ps
within_sum m [] h = tt
within_sum m (p ∷ ps) h =
    let more : sum_by (λ q. q.1) (p ∷ ps) ≡ p.1 + sum_by (λ q. q.1) ps = sum_by-cons (λ (q : ℕ × ℕ). q.1) p ps in
    (omega arith, within_sum m ps (omega arith))

-- each site and count fits 32 bits
small : (ps : List (ℕ × ℕ)) → Each (λ p. p.0 < 32) ps → Each (λ p. p.1 ≤ 131072) ps → Each (λ p. (p.0 < 2 ^ 32) × (p.1 < 2 ^ 32)) ps
small [] h k = tt
small (p ∷ ps) h k = ((omega (arith, h.0), omega (arith, k.0)), small ps h.1 k.1)

pub pairs_small : (clock : List ℕ) → IsClock clock → Each (λ p. (p.0 < 2 ^ 32) × (p.1 < 2 ^ 32)) (pairs_of clock)
pairs_small clock h = small (pairs_of clock) (pairs_sited clock) (within_sum 131072 (pairs_of clock) (listing_of clock h).limit)
