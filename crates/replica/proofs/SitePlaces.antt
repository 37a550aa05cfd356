-- The rows of places: one place more in a row, and rows whose memory grows.
use Rattle.std.proofs.Common.{◌≡◌, ℕ, zero, suc, ◌+◌, ◌<◌, ◌≤◌, List, [], ◌∷◌, ◌++◌, length, get_or, set, map, replicate, refl, ap}
use Rattle.std.proofs.Common.{◌∙◌, sym, subst, arith, ◌⊎◌, inl, inr, get_or-set_other, get_or-set_same}
use Rattle.std.specs.List.{AllByRecursion as Each}
use mathlib.Core.Path.{ap₂}
use Rattle.std.proofs.lemmas.Bool.{cases_eq}
use Rattle.replica.specs.Internal.Numbered.{PlacesOfOne}

abbrev places : List PlacesOfOne → List (List ℕ)
places rows = map (λ r. r.places) rows

places-set : (rows : List PlacesOfOne) (i : ℕ) (new : PlacesOfOne) → places (set rows i new) ≡ set (places rows) i new.places
places-set [] i new = refl
places-set (r ∷ rows) zero new = refl
places-set (r ∷ rows) (suc i) new = ap (λ (ps : List (List ℕ)). r.places ∷ ps) (places-set rows i new)

places-at : (rows : List PlacesOfOne) (i : ℕ) (d : PlacesOfOne) → i < length rows → get_or (places rows) i [] ≡ (get_or rows i d).places
places-at [] i d l = absurd (omega arith)
places-at (r ∷ rows) zero d l = refl
places-at (r ∷ rows) (suc i) d l = places-at rows i d (omega arith)

-- a place is added to a row
pub pushed : (rows : List PlacesOfOne) (now : List (List ℕ)) (i site place : ℕ) (r new : PlacesOfOne) → places rows ≡ now → i ≡ site
    → i < length rows
    → new.places ≡ (get_or rows i r).places ++ place ∷ [] → places (set rows i new) ≡ set now site (get_or now site [] ++ place ∷ [])
pushed rows now i site place r new e f l n =
    subst (λ v. places (set rows i new) ≡ set v site (get_or v site [] ++ place ∷ [])) e
    (subst (λ k. places (set rows i new) ≡ set (places rows) k (get_or (places rows) k [] ++ place ∷ [])) f
    (places-set rows i new ∙ ap (set (places rows) i) (n ∙ ap (λ (ps : List ℕ). ps ++ place ∷ []) (sym (places-at rows i r l)))))

-- rows of no places
pub no_places : (rows : List PlacesOfOne) (n : ℕ) (blank : PlacesOfOne) → blank.places ≡ [] → length rows ≡ n
    → ((k : ℕ) → k < n → get_or rows k blank ≡ blank) → places rows ≡ replicate n []
no_places [] zero blank b e h = refl
no_places [] (suc n) blank b e h = absurd (omega (arith, e))
no_places (r ∷ rows) zero blank b e h = absurd (omega (arith, e))
no_places (r ∷ rows) (suc n) blank b e h =
    ap₂ (λ (p : List ℕ) (ps : List (List ℕ)). p ∷ ps) (ap (λ (q : PlacesOfOne). q.places) (h 0 (omega arith)) ∙ b)
    (no_places rows n blank b (omega (arith, e)) (λ k l. h (suc k) (omega arith)))

-- a row that keeps its places
pub kept_places : (rows : List PlacesOfOne) (i : ℕ) (r new : PlacesOfOne) → i < length rows → r ≡ get_or rows i r → new.places ≡ r.places
    → places (set rows i new) ≡ places rows
kept_places [] i r new l e f = absurd (omega arith)
kept_places (s ∷ rows) zero r new l e f = ap (λ (p : List ℕ). p ∷ places rows) (f ∙ ap (λ (q : PlacesOfOne). q.places) e)
kept_places (s ∷ rows) (suc i) r new l e f = ap (λ (ps : List (List ℕ)). s.places ∷ ps) (kept_places rows i r new (omega arith) e f)

-- a row that keeps its memory
pub kept_reserved : (rows : List PlacesOfOne) (i reserved : ℕ) (r new : PlacesOfOne) → i < length rows → r ≡ get_or rows i r
    → r.reserved ≤ new.reserved
    → Each (λ q. reserved ≤ q.reserved) rows → Each (λ q. reserved ≤ q.reserved) (set rows i new)
kept_reserved [] i reserved r new l e f h = absurd (omega arith)
kept_reserved (s ∷ rows) zero reserved r new l e f h =
    let same : r.reserved ≡ s.reserved = ap (λ (q : PlacesOfOne). q.reserved) e in
    (omega (arith, same, f, h.0), h.1)
kept_reserved (s ∷ rows) (suc i) reserved r new l e f h = (h.0, kept_reserved rows i reserved r new (omega arith) e f h.1)

-- what holds of each place
pub each_row : (rows : List PlacesOfOne) (n : ℕ) → ((k : ℕ) (d : PlacesOfOne) → k < length rows → n ≤ (get_or rows k d).reserved)
    → Each (λ q. n ≤ q.reserved) rows
each_row [] n h = tt
each_row (r ∷ rows) n h = (h 0 r (omega arith), each_row rows n (λ k d l. h (suc k) d (omega arith)))

-- one row more has the room
pub enough_more : (rows : List PlacesOfOne) (i n : ℕ) (new : PlacesOfOne) → i < length rows → n ≤ new.reserved
    → ((k : ℕ) (d : PlacesOfOne) → k < i → n ≤ (get_or rows k d).reserved)
    → (k : ℕ) (d : PlacesOfOne) → k < i + 1 → n ≤ (get_or (set rows i new) k d).reserved
enough_more rows i n new l m h k d b = go (cases_eq k i)
  where
    go : (k ≡ i) ⊎ (k ≡ i → ⊥) → n ≤ (get_or (set rows i new) k d).reserved
    go (inl q) =
        let here : (get_or (set rows i new) k d).reserved ≡ new.reserved =
        ap (λ j. (get_or (set rows i new) j d).reserved) q ∙ ap (λ (r : PlacesOfOne). r.reserved) (get_or-set_same rows i new d l) in
        omega (arith, here, m)
    go (inr q) =
        let there : (get_or (set rows i new) k d).reserved ≡ (get_or rows k d).reserved =
        ap (λ (r : PlacesOfOne). r.reserved) (get_or-set_other rows i k new d q) in
        let below : k < i = omega arith in
        omega (arith, there, h k d below)
