-- What the pairs of a clock leave when they are put in one after another.
use Rattle.std.proofs.Common.{◌≡◌, ℕ, zero, suc, ◌+◌, ◌<◌, ◌≤◌, ◌⊎◌, inl, inr, List, [], ◌∷◌, length, set, get_or, refl, ap, ◌∙◌, sym}
use Rattle.std.proofs.Common.{subst, arith, length-set, get_or-set_other, get_or-set_same, eqb, false, eqb-true, eq-eqb, drop, drop-cons}
use Rattle.std.proofs.Common.{add-one, sum, ◌↔◌, map}
use Rattle.std.specs.List.{AllByRecursion as Each, sum_by}
use Rattle.std.proofs.lemmas.Bool.{cases_eq, cond-true, cond-false, false_from_ne_true, cases_lt}
use Rattle.std.proofs.lemmas.List.FromFn.{fill_by_all}
use Rattle.std.proofs.lemmas.List.Sums.{sum_by-cons}
use Rattle.std.proofs.lemmas.List.{get_or_default}
use Rattle.std.proofs.Math.ListN.{drop_of_length-le}
use Rattle.opid.specs.Clocks.{sites}
use Rattle.opid.specs.Delivery.{count_of, clock_of}
use mathlib.Core.Path.{ap₂}
use Rattle.causal_clock.specs.Listing.{count_in, clock_with}
use Rattle.causal_clock.proofs.Changing.{length-fill}
use Rattle.opid.specs.Internal.RisingPairs.{AreRising}
use Rattle.causal_clock.proofs.Listings.{IsListing}

-- the counts with each pair's put in
abbrev pub fill : List ℕ → List (ℕ × ℕ) → List ℕ
fill c [] = c
fill c (p ∷ ps) = fill (set c p.0 p.1) ps

-- from `least` on and beside `total`, the pairs go on to tell a clock
abbrev pub GoOn : ℕ → ℕ → List (ℕ × ℕ) → Type 0
GoOn least total [] = Unit {0}
GoOn least total (p ∷ ps) = (least ≤ p.0) × (0 < p.1) × (total + p.1 ≤ 131072) × GoOn (p.0 + 1) (total + p.1) ps

-- every site is one of 32
abbrev pub Sited : List (ℕ × ℕ) → Type 0
Sited ps = Each (λ p. p.0 < 32) ps

weaker : (a b : ℕ) (ps : List (ℕ × ℕ)) → a ≤ b → Each (λ p. b ≤ p.0) ps → Each (λ p. a ≤ p.0) ps
weaker a b [] l h = tt
weaker a b (p ∷ ps) l h = (omega (arith, h.0), weaker a b ps l h.1)

at_least : (least total : ℕ) (ps : List (ℕ × ℕ)) → GoOn least total ps → Each (λ p. least ≤ p.0) ps
at_least least total [] g = tt
at_least least total (p ∷ ps) g = (g.0, weaker least (p.0 + 1) ps (omega (arith, g.0)) (at_least (p.0 + 1) (total + p.1) ps g.3))

above : (s : ℕ) (ps : List (ℕ × ℕ)) → Each (λ p. s + 1 ≤ p.0) ps → Each (λ p. s < p.0) ps
above s [] h = tt
above s (p ∷ ps) h = (omega (arith, h.0), above s ps h.1)

reach : (s : ℕ) (ps : List (ℕ × ℕ)) → Each (λ p. s < p.0) ps → Each (λ p. s + 1 ≤ p.0) ps
reach s [] h = tt
reach s (p ∷ ps) h = (omega (arith, h.0), reach s ps h.1)

rising : (least total : ℕ) (ps : List (ℕ × ℕ)) → GoOn least total ps → AreRising ps
rising least total [] g = tt
rising least total (p ∷ ps) g = (above p.0 ps (at_least (p.0 + 1) (total + p.1) ps g.3), rising (p.0 + 1) (total + p.1) ps g.3)

counted : (least total : ℕ) (ps : List (ℕ × ℕ)) → GoOn least total ps → Each (λ p. 0 < p.1) ps
counted least total [] g = tt
counted least total (p ∷ ps) g = (g.1, counted (p.0 + 1) (total + p.1) ps g.3)

limited : (least total : ℕ) (ps : List (ℕ × ℕ)) → total ≤ 131072 → GoOn least total ps → total + sum_by (λ p. p.1) ps ≤ 131072
limited least total [] l g = omega arith
limited least total (p ∷ ps) l g = omega (arith, limited (p.0 + 1) (total + p.1) ps g.2 g.3, sum_by-cons (λ (q : ℕ × ℕ). q.1) p ps)

pub IsListing-goes_on : (ps : List (ℕ × ℕ)) → GoOn 0 0 ps → IsListing ps
IsListing-goes_on ps g = record {
  rising = rising 0 0 ps g;
  counted = counted 0 0 ps g;
  limit =
      omega (arith, limited 0 0 ps (omega arith) g);
}

goes_on : (least total : ℕ) (ps : List (ℕ × ℕ)) → Each (λ p. least ≤ p.0) ps → AreRising ps → Each (λ p. 0 < p.1) ps
    → total + sum_by (λ p. p.1) ps ≤ 131072 → GoOn least total ps
goes_on least total [] h r c l = tt
goes_on least total (p ∷ ps) h r c l =
    let more : sum_by (λ q. q.1) (p ∷ ps) ≡ p.1 + sum_by (λ q. q.1) ps = sum_by-cons (λ (q : ℕ × ℕ). q.1) p ps in
    (h.0, c.0, omega arith, goes_on (p.0 + 1) (total + p.1) ps (reach p.0 ps r.0) r.1 c.1 (omega arith))

from_none : (ps : List (ℕ × ℕ)) → Each (λ p. 0 ≤ p.0) ps
from_none [] = tt
from_none (p ∷ ps) = (omega arith, from_none ps)

pub goes_on-IsListing : (ps : List (ℕ × ℕ)) → IsListing ps → GoOn 0 0 ps
goes_on-IsListing ps h = goes_on 0 0 ps (from_none ps) h.rising h.counted (omega (arith, h.limit))

-- counts below the least site stay
fill-below : (c : List ℕ) (ps : List (ℕ × ℕ)) (least s : ℕ) → Each (λ p. least ≤ p.0) ps → s < least → get_or (fill c ps) s 0 ≡ get_or c s 0
fill-below c [] least s h l = refl
fill-below c (p ∷ ps) least s h l =
    fill-below (set c p.0 p.1) ps least s h.1 l
    ∙ get_or-set_other c p.0 s p.1 0 (λ e. omega (arith, h.0, e))

count_in-below : (ps : List (ℕ × ℕ)) (least s : ℕ) → Each (λ p. least ≤ p.0) ps → s < least → count_in ps s ≡ 0
count_in-below [] least s h l = refl
count_in-below (p ∷ ps) least s h l = cond-false _ _ _ (differs p.0 s (omega (arith, h.0))) ∙ count_in-below ps least s h.1 l
  where
    differs : (a b : ℕ) → b < a → eqb a b ≡ false
    differs a b q = grind (arith)

le_or_lt : (a b : ℕ) → (a ≤ b) ⊎ (b < a)
le_or_lt a b = elim (cases_lt b a) [ inl l ↦ inr l | inr l ↦ inl l ]

fill-at : (c : List ℕ) (ps : List (ℕ × ℕ)) (least s : ℕ) → length c ≡ 32 → Sited ps → Each (λ p. least ≤ p.0) ps → AreRising ps
    → ((k : ℕ) → least ≤ k → get_or c k 0 ≡ 0) → least ≤ s → get_or (fill c ps) s 0 ≡ count_in ps s
fill-at c [] least s w i h r z l = z s l
fill-at c (p ∷ ps) least s w i h r z l =
    go (λ q. fill-at (set c p.0 p.1) ps (p.0 + 1) s (length-set c p.0 p.1 ∙ w) i.1 (reach p.0 ps r.0) r.1
    (λ k m. get_or-set_other c p.0 k p.1 0 (λ e. omega (arith, m, e)) ∙ z k (omega (arith, h.0, m)))
    (omega (arith, q)))
    (cases_eq p.0 s)
  where
    other : (p.0 < s → get_or (fill (set c p.0 p.1) ps) s 0 ≡ count_in ps s) → (p.0 ≡ s → ⊥) → (s ≤ p.0) ⊎ (p.0 < s)
        → get_or (fill (set c p.0 p.1) ps) s 0 ≡ count_in ps s
    other ih d (inl q) =
        fill-below (set c p.0 p.1) ps (p.0 + 1) s (reach p.0 ps r.0) (omega arith)
        ∙ get_or-set_other c p.0 s p.1 0 (λ e. d (sym e))
        ∙ z s l
        ∙ sym (count_in-below ps (p.0 + 1) s (reach p.0 ps r.0) (omega arith))
    other ih d (inr q) = ih q

    go : (p.0 < s → get_or (fill (set c p.0 p.1) ps) s 0 ≡ count_in ps s) → (p.0 ≡ s) ⊎ (p.0 ≡ s → ⊥)
        → get_or (fill (set c p.0 p.1) ps) s 0 ≡ count_in (p ∷ ps) s
    go ih (inl e) =
        fill-below (set c p.0 p.1) ps (p.0 + 1) s (reach p.0 ps r.0) (omega (arith, e))
        ∙ ap (λ v. get_or (set c p.0 p.1) v 0) (sym e)
        ∙ get_or-set_same c p.0 p.1 0 (omega (arith, i.0))
        ∙ sym (cond-true _ _ _ (eq-eqb p.0 s e))
    go ih (inr d) = other ih d (le_or_lt s p.0) ∙ sym (cond-false _ _ _ (false_from_ne_true (eqb p.0 s) (λ q. d (eqb-true p.0 s q))))

get_or-map_zero : (f : ℕ → ℕ) (xs : List ℕ) (k : ℕ) → ((x : ℕ) → f x ≡ 0) → get_or (map f xs) k 0 ≡ 0
get_or-map_zero f [] k h = refl
get_or-map_zero f (x ∷ xs) zero h = h x
get_or-map_zero f (x ∷ xs) (suc k) h = get_or-map_zero f xs k h

get_or-clock_of_none : (k : ℕ) → get_or (clock_of []) k 0 ≡ 0
get_or-clock_of_none k = get_or-map_zero (count_of []) sites k (λ x. refl)

drop_all : (ps : List (ℕ × ℕ)) (i : ℕ) → length ps ≤ i → drop i ps ≡ []
drop_all ps i l = drop_of_length-le ps l

pub fill-clock_with : (ps : List (ℕ × ℕ)) (c : List ℕ) → length c ≡ 32 → ((k : ℕ) → get_or c k 0 ≡ 0) → Sited ps → IsListing ps
    → fill c ps ≡ clock_with ps
unfolding sites
fill-clock_with ps c w z i h =
    fill_by_all (count_in ps) (fill c ps) 32 0 (length-fill c ps ∙ w)
    (λ k l. fill-at c ps 0 k w i (from_none ps) h.rising (λ j m. z j) (omega arith))

-- every pair below the end is of one of 32 sites
pub Sited-each : (ps : List (ℕ × ℕ)) → ((k : ℕ) (d : ℕ × ℕ) → k < length ps → (get_or ps k d).0 < 32) → Sited ps
Sited-each [] h = tt
Sited-each (p ∷ ps) h = (h 0 p (omega arith), Sited-each ps (λ k d l. h (suc k) d (omega arith)))

pub drop-here : (ps : List (ℕ × ℕ)) (i : ℕ) (d : ℕ × ℕ) → i < length ps → d ≡ get_or ps i d → drop i ps ≡ d ∷ drop (i + 1) ps
drop-here ps i d l e = drop-cons ps i d l ∙ ap₂ (λ (v : ℕ × ℕ) w. v ∷ w) (sym e) (ap (λ k. drop k ps) (sym (add-one i)))

-- what a pair that goes on leaves
pub record Goes (ps : List (ℕ × ℕ)) (least : ℕ) (c : List ℕ) (i : ℕ) : Type 0 where
  pub filled : fill c (drop i ps) ≡ fill (clock_of []) ps
  pub goes : GoOn least (sum c) (drop i ps) ↔ GoOn 0 0 ps
  pub zeros : (k : ℕ) → least ≤ k → get_or c k 0 ≡ 0
  pub sited : (k : ℕ) (d : ℕ × ℕ) → k < i → (get_or ps k d).0 < 32

pub Goes-start : (ps : List (ℕ × ℕ)) → Goes ps 0 (clock_of []) 0
unfolding sites
Goes-start ps = record { filled = refl; goes = ((λ g. g), (λ g. g)); zeros = λ k l. zero_at k; sited = λ k d l. absurd (omega arith) }
  where
    zero_at : (k : ℕ) → get_or (clock_of []) k 0 ≡ 0
    zero_at k = get_or-clock_of_none k

pub Goes-step : (ps : List (ℕ × ℕ)) (least : ℕ) (c : List ℕ) (i : ℕ) (d : ℕ × ℕ) (new : List ℕ) → Goes ps least c i → i < length ps
    → d ≡ get_or ps i d
    → least ≤ d.0 → 0 < d.1 → sum c + d.1 ≤ 131072 → d.0 < 32 → new ≡ set c d.0 d.1 → sum new + get_or c d.0 0 ≡ sum c + d.1
    → Goes ps (d.0 + 1) new (i + 1)
Goes-step ps least c i d new g l e a b m s n t =
    let here : drop i ps ≡ d ∷ drop (i + 1) ps = drop-here ps i d l e in
    let total : sum new ≡ sum c + d.1 = omega (arith, g.zeros d.0 a) in
    record {
      filled = ap (λ v. fill v (drop (i + 1) ps)) n ∙ ap (fill c) (sym here) ∙ g.filled;
      goes = (
        (λ k. g.goes.0 (subst (λ v. GoOn least (sum c) v) (sym here) (a, b, m, subst (λ v. GoOn (d.0 + 1) v (drop (i + 1) ps)) total k))),
        (λ k. subst (λ v. GoOn (d.0 + 1) v (drop (i + 1) ps)) (sym total) (subst (λ v. GoOn least (sum c) v) here (g.goes.1 k)).3),
      );
      zeros = λ k q. ap (λ v. get_or v k 0) n ∙ get_or-set_other c d.0 k d.1 0 (λ f. omega (arith, q, f)) ∙ g.zeros k (omega arith);
      sited = λ k f q. more k f (cases_eq k i) q;
    }
  where
    more : (k : ℕ) (f : ℕ × ℕ) → (k ≡ i) ⊎ (k ≡ i → ⊥) → k < i + 1 → (get_or ps k f).0 < 32
    more k f (inl q) r =
        let same : get_or ps k f ≡ d = ap (λ v. get_or ps v f) q ∙ get_or_default ps i f d l ∙ sym e in
        subst (λ (v : ℕ × ℕ). v.0 < 32) (sym same) s
    more k f (inr q) r = g.sited k f (omega arith)

-- a pair that doesn't go on is in no listing
pub Goes-stop : (ps : List (ℕ × ℕ)) (least : ℕ) (c : List ℕ) (i : ℕ) (d : ℕ × ℕ) → Goes ps least c i → i < length ps → d ≡ get_or ps i d
    → (least ≤ d.0 → 0 < d.1 → sum c + d.1 ≤ 131072 → ⊥) → IsListing ps → ⊥
Goes-stop ps least c i d g l e n h =
    let k = subst (λ v. GoOn least (sum c) v) (drop-here ps i d l e) (g.goes.1 (goes_on-IsListing ps h)) in
    n k.0 k.1 k.2

pub Goes-end : (ps : List (ℕ × ℕ)) (least : ℕ) (c : List ℕ) (i : ℕ) → Goes ps least c i → length ps ≤ i → IsListing ps × (c ≡ clock_with ps)
unfolding sites
Goes-end ps least c i g l =
    let none : drop i ps ≡ [] = drop_all ps i l in
    let listing : IsListing ps = IsListing-goes_on ps (g.goes.0 (subst (λ v. GoOn least (sum c) v) (sym none) tt)) in (
      listing,
      ap (fill c) (sym none) ∙ g.filled ∙ fill-clock_with ps (clock_of []) refl (λ k. get_or-clock_of_none k)
          (Sited-each ps (λ k d m. g.sited k d (omega arith))) listing,
    )
