-- What the pairs of a clock are, told by relations in the place of tests.
use Rattle.std.proofs.Common.{◌≡◌, ℕ, ◌<◌, ◌≤◌, List, [], ◌∷◌, Bool, true, Ok, Err, refl, sym, ap, ap₂, ◌∙◌, arith}
use Rattle.std.specs.Prelude.{nat_lt, nat_le, ◌&&◌}
use Rattle.std.specs.List.{AllByRecursion, list_all, sum_by}
use Rattle.std.proofs.lemmas.Bool.{and_parts, ltb-true, lt-ltb, cond-true, cond-false, false_from_ne_true}
use Rattle.std.proofs.lemmas.Bool.Decides.{nat_tests}
use Rattle.opid.specs.declared.refusal.Refusal.TheVariants.{BadClock}
use Rattle.opid.specs.Internal.RisingPairs.{AreRising}
use Rattle.causal_clock.specs.Listing.{clock_with, rises, tells_clock, clock_told}

-- pairs that tell a clock
pub record IsListing (pairs : List (ℕ × ℕ)) : Type 0 where
  pub rising : AreRising pairs
  pub counted : AllByRecursion (λ p. 0 < p.1) pairs
  pub limit : sum_by (λ p. p.1) pairs ≤ 131072

all_pass : {A : Type 0} (test : A → Bool) (P : A → Type 0) → ((x : A) → P x → test x ≡ true) → (xs : List A) → AllByRecursion P xs
    → list_all test xs ≡ true
all_pass test P pass [] h = refl
all_pass test P pass (x ∷ xs) h = ap₂ (λ a b. a && b) (pass x h.0) (all_pass test P pass xs h.1)

passes : {A : Type 0} (test : A → Bool) (P : A → Type 0) → ((x : A) → test x ≡ true → P x) → (xs : List A) → list_all test xs ≡ true
    → AllByRecursion P xs
passes test P is [] h = tt
passes test P is (x ∷ xs) h = let both = and_parts (test x) (list_all test xs) h in (is x both.0, passes test P is xs both.1)

rises_where_rising : (ps : List (ℕ × ℕ)) → AreRising ps → rises ps ≡ true
rises_where_rising [] h = refl
rises_where_rising (p ∷ ps) h =
    ap₂ (λ a b. a && b) (all_pass (λ q. nat_lt p.0 q.0) (λ q. p.0 < q.0) (λ q. lt-ltb p.0 q.0) ps h.0) (rises_where_rising ps h.1)

rising : (ps : List (ℕ × ℕ)) → rises ps ≡ true → AreRising ps
rising [] h = tt
rising (p ∷ ps) h =
    let both = and_parts (list_all (λ q. nat_lt p.0 q.0) ps) (rises ps) h in
    (passes (λ q. nat_lt p.0 q.0) (λ q. p.0 < q.0) (λ q. ltb-true p.0 q.0) ps both.0, rising ps both.1)

within : (n : ℕ) → n ≤ 131072 → nat_le n 131072 ≡ true
within n h = grind (arith, nat_tests)

is_within : (n : ℕ) → nat_le n 131072 ≡ true → n ≤ 131072
is_within n h = grind (arith, nat_tests)

pub tells : (ps : List (ℕ × ℕ)) → IsListing ps → tells_clock ps ≡ true
tells ps h =
    ap₂ (λ a b. a && b)
    (ap₂ (λ a b. a && b) (rises_where_rising ps h.rising) (all_pass (λ p. nat_lt 0 p.1) (λ p. 0 < p.1) (λ p. lt-ltb 0 p.1) ps h.counted))
    (within (sum_by (λ p. p.1) ps) h.limit)

pub listing : (ps : List (ℕ × ℕ)) → tells_clock ps ≡ true → IsListing ps
listing ps h =
    let both = and_parts (rises ps && list_all (λ p. nat_lt 0 p.1) ps) (nat_le (sum_by (λ p. p.1) ps) 131072) h in
    let first = and_parts (rises ps) (list_all (λ p. nat_lt 0 p.1) ps) both.0 in
    record {
      rising = rising ps first.0;
      counted = passes (λ p. nat_lt 0 p.1) (λ p. 0 < p.1) (λ p. ltb-true 0 p.1) ps first.1;
      limit = is_within (sum_by (λ p. p.1) ps) both.1;
    }

pub told : (ps : List (ℕ × ℕ)) (clock : List ℕ) → IsListing ps → clock ≡ clock_with ps → Ok clock ≡ clock_told ps
told ps clock h e = ap Ok e ∙ sym (cond-true (tells_clock ps) _ _ (tells ps h))

pub untold : (ps : List (ℕ × ℕ)) → (IsListing ps → ⊥) → Err BadClock ≡ clock_told ps
untold ps none = sym (cond-false (tells_clock ps) _ _ (false_from_ne_true (tells_clock ps) (λ t. none (listing ps t))))
