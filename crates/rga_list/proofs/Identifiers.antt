-- What is found among the identifiers of a site, by halves or along them.
use Rattle.std.proofs.Common.{◌≡◌, ℕ, zero, suc, ◌-◌, ◌<◌, ◌≤◌, inl, inr, Bool, true, false, cond, eqb, eqb-true, eq-eqb, Some, None, List}
use Rattle.std.proofs.Common.{[], ◌∷◌, ◌++◌, length, get_or, refl, ◌∙◌, sym, subst, arith, nat_cmp, Less, Equal, Greater}
use Rattle.std.specs.Ordering.{ordering_index}
use Rattle.std.specs.List.{AllByRecursion as Each}
use Rattle.std.specs.List.Sorted.{IsNonDecreasingBy, IsPartitionPoint}
use Rattle.std.proofs.lemmas.Bool.{cases_lt, cond-true, cond-false, false_from_ne_true}
use Rattle.std.proofs.lemmas.Bool.Decides.{nat_tests}
use Rattle.opid.specs.Internal.RisingPairs.{AreRising}
use Rattle.rga_list.specs.Internal.SiteIds.{find_id, IsGreatest}

eqb-self : (a : ℕ) → eqb a a ≡ true
eqb-self a = eq-eqb a a refl

pub eqb-differs : (a b : ℕ) → (a ≡ b → ⊥) → eqb a b ≡ false
eqb-differs a b d = false_from_ne_true (eqb a b) (λ e. d (eqb-true a b e))

Each-push : {X : Type 0} (P : X → Type 0) (xs : List X) (y : X) → Each P xs → P y → Each P (xs ++ y ∷ [])
Each-push P [] y h k = (k, tt)
Each-push P (x ∷ xs) y h k = (h.0, Each-push P xs y h.1 k)

pub AreRising-push : (ids : List (ℕ × ℕ)) (sum elem : ℕ) → Each (λ i. i.0 < sum) ids → AreRising ids → AreRising (ids ++ (sum, elem) ∷ [])
AreRising-push [] sum elem h r = (tt, tt)
AreRising-push (id ∷ ids) sum elem h r = (Each-push (λ i. id.0 < i.0) ids (sum, elem) r.0 h.0, AreRising-push ids sum elem h.1 r.1)

Each-get : {X : Type 0} (P : X → Type 0) (xs : List X) (k : ℕ) (d : X) → Each P xs → k < length xs → P (get_or xs k d)
Each-get P [] k d h l = absurd (omega arith)
Each-get P (x ∷ xs) zero d h l = h.0
Each-get P (x ∷ xs) (suc k) d h l = Each-get P xs k d h.1 (omega arith)

-- the sum at a place names what stands there
pub find_id-at : (ids : List (ℕ × ℕ)) (k sum : ℕ) (d : ℕ × ℕ) → AreRising ids → k < length ids → (get_or ids k d).0 ≡ sum
    → find_id sum ids ≡ Some (get_or ids k d).1
find_id-at [] k sum d r l e = absurd (omega arith)
find_id-at (id ∷ ids) zero sum d r l e = cond-true _ _ _ (eq-eqb id.0 sum e)
find_id-at (id ∷ ids) (suc k) sum d r l e =
    let below : id.0 < (get_or ids k d).0 = Each-get (λ (i : ℕ × ℕ). id.0 < i.0) ids k d r.0 (omega arith) in
    cond-false _ _ _ (eqb-differs id.0 sum (λ q. omega (arith, q, e, below))) ∙ find_id-at ids k sum d r.1 (omega arith) e

find_id-none : (ids : List (ℕ × ℕ)) (sum : ℕ) → ((k : ℕ) (d : ℕ × ℕ) → k < length ids → (get_or ids k d).0 ≡ sum → ⊥)
    → find_id sum ids ≡ None
find_id-none [] sum h = refl
find_id-none (id ∷ ids) sum h =
    cond-false _ _ _ (eqb-differs id.0 sum (λ e. h 0 id (omega arith) e)) ∙ find_id-none ids sum (λ k d l e. h (suc k) d (omega arith) e)

equal_from : (a b : ℕ) → nat_cmp a b ≡ Equal → a ≡ b
equal_from a b h = grind (arith, nat_tests)

less_from : (a b : ℕ) → nat_cmp a b ≡ Less → a < b
less_from a b h = grind (arith, nat_tests)

greater_from : (a b : ℕ) → nat_cmp a b ≡ Greater → b < a
greater_from a b h = grind (arith, nat_tests)

index_rises : (a b s : ℕ) → a ≤ b → ordering_index (nat_cmp a s) ≤ ordering_index (nat_cmp b s)
index_rises a b s l = grind (arith, nat_tests)

rises : (ids : List (ℕ × ℕ)) (i j : ℕ) (d : ℕ × ℕ) → AreRising ids → i ≤ j → j < length ids → (get_or ids i d).0 ≤ (get_or ids j d).0
rises [] i j d r l m = absurd (omega arith)
rises (id ∷ ids) zero zero d r l m = omega arith
rises (id ∷ ids) zero (suc j) d r l m =
    let below : id.0 < (get_or ids j d).0 = Each-get (λ (i : ℕ × ℕ). id.0 < i.0) ids j d r.0 (omega arith) in omega (arith, below)
rises (id ∷ ids) (suc i) zero d r l m = absurd (omega arith)
rises (id ∷ ids) (suc i) (suc j) d r l m = rises ids i j d r.1 (omega arith) (omega arith)

-- what a search by halves finds
pub halves-found : (ids : List (ℕ × ℕ)) (k sum : ℕ) (d : ℕ × ℕ) → AreRising ids → k < length ids
    → ((e : ℕ × ℕ) → nat_cmp (get_or ids k e).0 sum ≡ Equal) → Some (get_or ids k d).1 ≡ find_id sum ids
halves-found ids k sum d r l h = sym (find_id-at ids k sum d r l (equal_from (get_or ids k d).0 sum (h d)))

pub halves-none : (ids : List (ℕ × ℕ)) (k sum : ℕ) → AreRising ids
    → (IsNonDecreasingBy (λ (i : ℕ × ℕ). ordering_index (nat_cmp i.0 sum)) ids
    → IsPartitionPoint (λ (i : ℕ × ℕ). nat_cmp i.0 sum ≡ Less) (λ (i : ℕ × ℕ). nat_cmp i.0 sum ≡ Greater) ids k)
    → None ≡ find_id sum ids
halves-none ids k sum r h =
    let parts = h (λ i j d l m. index_rises (get_or ids i d).0 (get_or ids j d).0 sum (rises ids i j d r l m)) in
    sym (find_id-none ids sum (λ j d l e. elim (cases_lt j k) [
      | inl b ↦ (let q : (get_or ids j d).0 < sum = less_from (get_or ids j d).0 sum (parts.0 j d (omega arith) b) in omega (arith, q, e))
      | inr b ↦ (let q : sum < (get_or ids j d).0 = greater_from (get_or ids j d).0 sum (parts.1 j d b l) in omega (arith, q, e))
    ]))

Each-by_place : (P : ℕ × ℕ → Type 0) (ids : List (ℕ × ℕ)) (d : ℕ × ℕ) → ((k : ℕ) → k < length ids → P (get_or ids k d)) → Each P ids
Each-by_place P [] d h = tt
Each-by_place P (id ∷ ids) d h = (h 0 (omega arith), Each-by_place P ids d (λ k l. h (suc k) (omega arith)))

-- the last is the greatest
pub IsGreatest-last : (ids : List (ℕ × ℕ)) (d : ℕ × ℕ) → AreRising ids → 0 < length ids → IsGreatest ids (get_or ids (length ids - 1) d).0
IsGreatest-last ids d r l = record {
  elem = (get_or ids (length ids - 1) d).1;
  found = find_id-at ids (length ids - 1) (get_or ids (length ids - 1) d).0 d r (omega arith) refl;
  above = Each-by_place (λ i. i.0 ≤ (get_or ids (length ids - 1) d).0) ids d
      (λ k m. rises ids k (length ids - 1) d r (omega arith) (omega arith));
}

-- one identifier more
pub find_id-kept : (ids : List (ℕ × ℕ)) (s k : ℕ) (id : ℕ × ℕ) → find_id s ids ≡ Some k → find_id s (ids ++ id ∷ []) ≡ Some k
find_id-kept [] s k id h = cc
find_id-kept (i ∷ ids) s k id h = go (eqb i.0 s) (find_id-kept ids s k id) h
  where
    go : (t : Bool) → (find_id s ids ≡ Some k → find_id s (ids ++ id ∷ []) ≡ Some k) → cond t (Some i.1) (find_id s ids) ≡ Some k
        → cond t (Some i.1) (find_id s (ids ++ id ∷ [])) ≡ Some k
    go true ih e = e
    go false ih e = ih e

pub find_id-push : (ids : List (ℕ × ℕ)) (s : ℕ) (id : ℕ × ℕ) → find_id s ids ≡ None
    → find_id s (ids ++ id ∷ []) ≡ cond (eqb id.0 s) (Some id.1) None
find_id-push [] s id h = refl
find_id-push (i ∷ ids) s id h = go (eqb i.0 s) (find_id-push ids s id) h
  where
    go : (t : Bool) → (find_id s ids ≡ None → find_id s (ids ++ id ∷ []) ≡ cond (eqb id.0 s) (Some id.1) None)
        → cond t (Some i.1) (find_id s ids) ≡ None → cond t (Some i.1) (find_id s (ids ++ id ∷ [])) ≡ cond (eqb id.0 s) (Some id.1) None
    go true ih e = cc
    go false ih e = ih e

-- what holds of each sum that is found holds along the row
pub Each-found : (P : ℕ → Type 0) (ids : List (ℕ × ℕ)) → ((s k : ℕ) → find_id s ids ≡ Some k → P s) → Each (λ i. P i.0) ids
Each-found P [] h = tt
Each-found P (id ∷ ids) h = (h id.0 id.1 (cond-true _ _ _ (eqb-self id.0)), Each-found P ids (λ s k e. go s k (eqb id.0 s) refl e))
  where
    go : (s k : ℕ) (t : Bool) → eqb id.0 s ≡ t → find_id s ids ≡ Some k → P s
    go s k true q e = h s id.1 (cond-true _ _ _ q)
    go s k false q e = h s k (cond-false _ _ _ q ∙ e)

-- and what holds along the row holds of each sum that is found
pub found-Each : (P : ℕ → Type 0) (ids : List (ℕ × ℕ)) → Each (λ i. P i.0) ids → (s k : ℕ) → find_id s ids ≡ Some k → P s
found-Each P [] h s k e = cc
found-Each P (id ∷ ids) h s k e = go (eqb id.0 s) refl (found-Each P ids h.1 s k) e
  where
    go : (t : Bool) → eqb id.0 s ≡ t → (find_id s ids ≡ Some k → P s) → cond t (Some id.1) (find_id s ids) ≡ Some k → P s
    go true q ih f = subst P (eqb-true id.0 s q) h.0
    go false q ih f = ih f
