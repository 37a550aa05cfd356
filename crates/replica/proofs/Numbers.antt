-- In a lawful log each site's operations are numbered from 1 without gaps, so that the rows of their places find each by its
-- number.
use Rattle.std.proofs.Common.{◌≡◌, ◌≢◌, ℕ, zero, suc, ◌+◌, ◌-◌, ◌<◌, ◌≤◌, ◌⊎◌, inl, inr, Bool, true, false, cond, eq-eqb, Option, Some}
use Rattle.std.proofs.Common.{None, List, [], ◌∷◌, ◌++◌, length, set, replicate, refl, ap, ◌∙◌, sym, arith, get_or-set_other}
use Rattle.std.proofs.Common.{get_or-set_same}
use Rattle.std.specs.Prelude.{◌==◌, slice_get, option_and_then}
use Rattle.std.specs.Option.{option_or}
use Rattle.std.proofs.lemmas.Bool.{cases_eq, cases_lt, ne_eqb, and_from, and_left, and_right}
use Rattle.std.proofs.lemmas.List.{length-append, length-set}
use Rattle.std.proofs.lemmas.List.Folds.{find-append}
use Rattle.std.proofs.lemmas.List.Sums.{sum_by-cons}
use Rattle.std.proofs.lemmas.Option.{slice_get_past}
use Rattle.opid.specs.Clocks.{entry}
use Rattle.opid.specs.Operations.{Operation, number_of}
use Rattle.opid.specs.Delivery.{count_of, clock_of}
use Rattle.opid.specs.Lawful.{IsLawful, MayFollow}
use Rattle.opid.proofs.Counts.{is_next-own, entry-clock_of}
use Rattle.opid.proofs.Logs.{lawful_induction}
use Rattle.opid.proofs.Walk.{append-nil}
use Rattle.opid.proofs.Placing.{get-middle, get-within}
use Rattle.opid.specs.Held.{with_number, is_same_number}
use Rattle.replica.specs.Internal.Numbered.{places_at, places_from, places_of, AreNumbered}

slice_get-old : {X : Type 0} (xs : List X) (y : X) (k : ℕ) → k < length xs → slice_get (xs ++ y ∷ []) k ≡ slice_get xs k
slice_get-old [] y k l = absurd (omega arith)
slice_get-old (x ∷ xs) y zero l = refl
slice_get-old (x ∷ xs) y (suc k) l = slice_get-old xs y k (omega arith)

-- one operation more
places-push : (start site : ℕ) (log : List Operation) (x : Operation)
    → places_from start site (log ++ x ∷ []) ≡ places_from start site log ++ cond (x.site == site) ((start + length log) ∷ []) []
places-push start site [] x = go (x.site == site)
  where
    go : (t : Bool) → cond t (start ∷ []) [] ≡ cond t ((start + 0) ∷ []) []
    go true = ap (λ n. n ∷ []) (omega arith)
    go false = refl
places-push start site (y ∷ log) x = go (y.site == site) (places-push (start + 1) site log x)
  where
    later : (start + 1) + length log ≡ start + length (y ∷ log)
    later = omega arith

    moved : cond (x.site == site) (((start + 1) + length log) ∷ []) [] ≡ cond (x.site == site) ((start + length (y ∷ log)) ∷ []) []
    moved = ap (λ n. cond (x.site == site) (n ∷ []) []) later

    go : (t : Bool) → places_from (start + 1) site (log ++ x ∷ [])
        ≡ places_from (start + 1) site log ++ cond (x.site == site) (((start + 1) + length log) ∷ []) []
        → cond t (start ∷ places_from (start + 1) site (log ++ x ∷ [])) (places_from (start + 1) site (log ++ x ∷ []))
        ≡ cond t (start ∷ places_from (start + 1) site log) (places_from (start + 1) site log)
        ++ cond (x.site == site) ((start + length (y ∷ log)) ∷ []) []
    go true ih = ap (λ ps. start ∷ ps) (ih ∙ ap (λ ps. places_from (start + 1) site log ++ ps) moved)
    go false ih = ih ∙ ap (λ ps. places_from (start + 1) site log ++ ps) moved

length-places : (start site : ℕ) (log : List Operation) → length (places_from start site log) ≡ count_of log site
length-places start site [] = refl
length-places start site (y ∷ log) = go (y.site == site) refl (length-places (start + 1) site log)
  where
    go : (t : Bool) → (y.site == site) ≡ t → length (places_from (start + 1) site log) ≡ count_of log site
        → length (cond t (start ∷ places_from (start + 1) site log) (places_from (start + 1) site log)) ≡ count_of (y ∷ log) site
    go true e ih = omega (
      arith,
      ih,
      sum_by-cons (λ (z : Operation). cond (z.site == site) 1 0) y log,
      ap (λ (b : Bool). let n : ℕ = cond b 1 0 in n) e,
    )
    go false e ih = omega (
      arith,
      ih,
      sum_by-cons (λ (z : Operation). cond (z.site == site) 1 0) y log,
      ap (λ (b : Bool). let n : ℕ = cond b 1 0 in n) e,
    )

-- each place is one of the log
places-within : (start site : ℕ) (log : List Operation) (k p : ℕ) → slice_get (places_from start site log) k ≡ Some p
    → p < start + length log
places-within start site [] k p e = cc
places-within start site (y ∷ log) k p e = go (y.site == site) k e (λ j f. places-within (start + 1) site log j p f)
  where
    go : (t : Bool) (k : ℕ) → slice_get (cond t (start ∷ places_from (start + 1) site log) (places_from (start + 1) site log)) k ≡ Some p
        → ((j : ℕ) → slice_get (places_from (start + 1) site log) j ≡ Some p → p < (start + 1) + length log) → p < start + length (y ∷ log)
    go true zero e ih = let same : start ≡ p = cc in omega arith
    go true (suc k) e ih = omega (arith, ih k e)
    go false k e ih = omega (arith, ih k e)

pub place-within : (site : ℕ) (log : List Operation) (k p : ℕ) → Some p ≡ slice_get (places_of site log) k → p < length log
place-within site log k p e = omega (arith, places-within 0 site log k p (sym e))

-- what the rows find
abbrev found : List Operation → ℕ → ℕ → Option Operation
found log site k = option_and_then (slice_get log) (slice_get (places_of site log) k)

-- an operation that follows has its site's next number
next_number : (log : List Operation) (x : Operation) → MayFollow log x → entry x.clock x.site ≡ length (places_of x.site log) + 1
next_number log x m =
    let own : entry x.clock x.site ≡ entry (clock_of log) x.site + 1 = is_next-own x.site x.clock (clock_of log) m.ready in
    omega (arith, own, entry-clock_of log x.site m.site, length-places 0 x.site log)

-- what was found stays found
found-old : (log : List Operation) (x : Operation) (site k : ℕ) → k < length (places_of site log)
    → found (log ++ x ∷ []) site k ≡ found log site k
found-old log x site k l =
    let at = get-within (places_of site log) k l in
    let here : slice_get (places_of site (log ++ x ∷ [])) k ≡ Some at.0 =
    ap (λ ps. slice_get ps k) (places-push 0 site log x) ∙ kept (x.site == site) ∙ at.1 in
    ap (option_and_then (slice_get (log ++ x ∷ []))) here
    ∙ slice_get-old log x at.0 (place-within site log k at.0 (sym at.1))
    ∙ ap (option_and_then (slice_get log)) (sym at.1)
  where
    kept : (t : Bool) → slice_get (places_of site log ++ cond t ((0 + length log) ∷ []) []) k ≡ slice_get (places_of site log) k
    kept true = slice_get-old (places_of site log) (0 + length log) k l
    kept false = ap (λ (ps : List ℕ). slice_get ps k) (append-nil (places_of site log))

found-past : (log : List Operation) (site k : ℕ) → length (places_of site log) ≤ k → found log site k ≡ None
found-past log site k l = ap (option_and_then (slice_get log)) (slice_get_past (places_of site log) k l)

abbrev IsFound : List Operation → Type 0
IsFound log = (site k : ℕ) → with_number (site, k + 1) log ≡ found log site k

-- one more operation of another site, or of the site
found-push : (log : List Operation) (x : Operation) → MayFollow log x → IsFound log → IsFound (log ++ x ∷ [])
found-push log x m ih site k =
    find-append (λ y. is_same_number (site, k + 1) (number_of y)) log (x ∷ [])
    ∙ ap (λ o. option_or o (last_one (is_same_number (site, k + 1) (number_of x)))) (ih site k)
    ∙ go (cases_eq site x.site)
  where
    last_one : Bool → Option Operation
    last_one t = cond t (Some x) None

    old : (t : Bool) → k < length (places_of site log) → option_or (found log site k) (last_one t) ≡ found (log ++ x ∷ []) site k
    old t l =
        let at = get-within (places_of site log) k l in
        let y = get-within log at.0 (place-within site log k at.0 (sym at.1)) in
        let is : found log site k ≡ Some y.0 = ap (option_and_then (slice_get log)) at.1 ∙ y.1 in
        ap (λ o. option_or o (last_one t)) is ∙ sym is ∙ sym (found-old log x site k l)

    none : (t : Bool) → t ≡ false → length (places_of site log) ≤ k → found (log ++ x ∷ []) site k ≡ None
        → option_or (found log site k) (last_one t) ≡ found (log ++ x ∷ []) site k
    none t e l n = ap (λ o. option_or o (last_one t)) (found-past log site k l) ∙ ap last_one e ∙ sym n

    rows : places_of site (log ++ x ∷ []) ≡ places_of site log ++ cond (x.site == site) ((0 + length log) ∷ []) []
    rows = places-push 0 site log x

    other : site ≢ x.site → (length (places_of site log) ≤ k) ⊎ (k < length (places_of site log))
        → option_or (found log site k) (last_one (is_same_number (site, k + 1) (number_of x))) ≡ found (log ++ x ∷ []) site k
    other d (inr l) = old (is_same_number (site, k + 1) (number_of x)) l
    other d (inl l) =
        let same : places_of site (log ++ x ∷ []) ≡ places_of site log = rows
        ∙ ap (λ b. places_of site log ++ cond b ((0 + length log) ∷ []) []) (ne_eqb x.site site (λ q. d (sym q)))
        ∙ append-nil (places_of site log) in
        none (is_same_number (site, k + 1) (number_of x)) (and_left (site == x.site) (k + 1 == entry x.clock x.site)
        (ne_eqb site x.site d)) l
        (found-past (log ++ x ∷ []) site k (omega (arith, l, ap (λ (ps : List ℕ). length ps) same)))

    own : site ≡ x.site → (length (places_of site log) ≤ k) ⊎ (k < length (places_of site log))
        → option_or (found log site k) (last_one (is_same_number (site, k + 1) (number_of x))) ≡ found (log ++ x ∷ []) site k
    own s (inr l) = old (is_same_number (site, k + 1) (number_of x)) l
    own s (inl l) = at (cases_eq k (length (places_of site log)))
      where
        number : entry x.clock x.site ≡ length (places_of site log) + 1
        number = next_number log x m ∙ ap (λ v. length (places_of v log) + 1) (sym s)

        longer : places_of site (log ++ x ∷ []) ≡ places_of site log ++ (0 + length log) ∷ []
        longer = rows ∙ ap (λ b. places_of site log ++ cond b ((0 + length log) ∷ []) []) (eq-eqb x.site site (sym s))

        at : (k ≡ length (places_of site log)) ⊎ (k ≡ length (places_of site log) → ⊥)
            → option_or (found log site k) (last_one (is_same_number (site, k + 1) (number_of x))) ≡ found (log ++ x ∷ []) site k
        at (inl q) =
            let same : is_same_number (site, k + 1) (number_of x) ≡ true =
            and_from _ _ (eq-eqb site x.site s) (eq-eqb (k + 1) (entry x.clock x.site) (omega (arith, q, number))) in
            let placed : slice_get (places_of site (log ++ x ∷ [])) k ≡ Some (0 + length log) = ap (λ ps. slice_get ps k) longer
            ∙ ap (λ n. slice_get (places_of site log ++ (0 + length log) ∷ []) n) q
            ∙ get-middle (places_of site log) (0 + length log) [] (length (places_of site log)) refl in
            let zero_more : 0 + length log ≡ length log = omega arith in
            ap (λ o. option_or o (last_one (is_same_number (site, k + 1) (number_of x)))) (found-past log site k l) ∙ ap last_one same
            ∙ sym (ap (option_and_then (slice_get (log ++ x ∷ []))) placed ∙ ap (slice_get (log ++ x ∷ [])) zero_more
            ∙ get-middle log x [] (length log) refl)
        at (inr d) =
            none (is_same_number (site, k + 1) (number_of x))
            (and_right (site == x.site) (k + 1 == entry x.clock x.site)
            (ne_eqb (k + 1) (entry x.clock x.site) (λ q. d (omega (arith, q, number))))) l
            (found-past (log ++ x ∷ []) site k (omega (
              arith,
              l,
              d,
              ap (λ (ps : List ℕ). length ps) longer,
              length-append (places_of site log) ((0 + length log) ∷ []),
            )))

    go : (site ≡ x.site) ⊎ (site ≡ x.site → ⊥) → option_or (found log site k) (last_one (is_same_number (site, k + 1) (number_of x)))
        ≡ found (log ++ x ∷ []) site k
    go (inl s) = own s (sides (cases_lt k (length (places_of site log))))
      where
        sides : (k < length (places_of site log)) ⊎ (length (places_of site log) ≤ k)
            → (length (places_of site log) ≤ k) ⊎ (k < length (places_of site log))
        sides (inl l) = inr l
        sides (inr l) = inl l
    go (inr d) = other d (sides (cases_lt k (length (places_of site log))))
      where
        sides : (k < length (places_of site log)) ⊎ (length (places_of site log) ≤ k)
            → (length (places_of site log) ≤ k) ⊎ (k < length (places_of site log))
        sides (inl l) = inr l
        sides (inr l) = inl l

-- a number is found by the place in its site's row
pub with_number-found : (log : List Operation) → IsLawful log → (site k : ℕ)
    → with_number (site, k + 1) log ≡ option_and_then (slice_get log) (slice_get (places_of site log) k)
with_number-found = lawful_induction IsFound (λ site k. refl) (λ log x l m ih. found-push log x m ih)

-- no operation has the number 0
abbrev HasNoZero : List Operation → Type 0
HasNoZero log = (site : ℕ) → with_number (site, 0) log ≡ None

pub with_number-zero : (log : List Operation) → IsLawful log → (site : ℕ) → with_number (site, 0) log ≡ None
with_number-zero = lawful_induction HasNoZero (λ site. refl) (λ log x l m ih site.
    find-append (λ y. is_same_number (site, 0) (number_of y)) log (x ∷ [])
    ∙ ap (λ o. option_or o (cond (is_same_number (site, 0) (number_of x)) (Some x) None)) (ih site)
    ∙ ap (λ t. cond t (Some x) None) (and_right (site == x.site) (0 == entry x.clock x.site)
    (ne_eqb 0 (entry x.clock x.site) (λ q. omega (arith, q, next_number log x m)))))

-- one more place in the row of the operation's site
pub AreNumbered-push : (log : List Operation) (rows new : List (List ℕ)) (x : Operation) (site place : ℕ) → AreNumbered log rows
    → site ≡ x.site → site < 32 → place ≡ length log
    → new ≡ set rows site (places_at rows site ++ place ∷ []) → AreNumbered (log ++ x ∷ []) new
AreNumbered-push log rows new x site place h s b p e = record {
  width = ap length e ∙ length-set rows site (places_at rows site ++ place ∷ []) ∙ h.width;
  each = λ k l. ap (λ rs. places_at rs k) e ∙ at k l (cases_eq k site);
}
  where
    at : (k : ℕ) → k < 32 → (k ≡ site) ⊎ (k ≡ site → ⊥) → places_at (set rows site (places_at rows site ++ place ∷ [])) k
        ≡ places_of k (log ++ x ∷ [])
    at k l (inl q) =
        let wide : site < length rows = omega (arith, h.width, b) in
        let start : place ≡ 0 + length log = omega (arith, p) in
        ap (places_at (set rows site (places_at rows site ++ place ∷ []))) q
        ∙ get_or-set_same rows site (places_at rows site ++ place ∷ []) [] wide
        ∙ ap (λ ps. ps ++ place ∷ []) (h.each site b)
        ∙ ap (λ n. places_of site log ++ n ∷ []) start
        ∙ sym (places-push 0 site log x ∙ ap (λ t. places_of site log ++ cond t ((0 + length log) ∷ []) []) (eq-eqb x.site site (sym s)))
        ∙ ap (λ v. places_of v (log ++ x ∷ [])) (sym q)
    at k l (inr d) =
        get_or-set_other rows site k (places_at rows site ++ place ∷ []) [] d
        ∙ h.each k l
        ∙ sym (places-push 0 k log x ∙ ap (λ t. places_of k log ++ cond t ((0 + length log) ∷ []) [])
        (ne_eqb x.site k (λ q. d (sym (s ∙ q)))) ∙ append-nil (places_of k log))

row_at-blank : (n k : ℕ) → places_at (replicate n []) k ≡ []
row_at-blank zero k = refl
row_at-blank (suc n) zero = refl
row_at-blank (suc n) (suc k) = row_at-blank n k

pub AreNumbered-none : AreNumbered [] (replicate 32 [])
AreNumbered-none = record { width = refl; each = λ site l. row_at-blank 32 site }

pub with_number-row : (log : List Operation) (rows : List (List ℕ)) (number : ℕ × ℕ) → IsLawful log → AreNumbered log rows → number.0 < 32
    → 0 < number.1
    → with_number number log ≡ option_and_then (slice_get log) (slice_get (places_at rows number.0) (number.1 - 1))
with_number-row log rows number l h b p =
    let again : number.1 ≡ (number.1 - 1) + 1 = omega arith in
    ap (λ n. with_number (number.0, n) log) again ∙ with_number-found log l number.0 (number.1 - 1)
    ∙ ap (λ ps. option_and_then (slice_get log) (slice_get ps (number.1 - 1))) (sym (h.each number.0 b))

pub row-within : (log : List Operation) (rows : List (List ℕ)) (site k p : ℕ) → AreNumbered log rows → site < 32
    → Some p ≡ slice_get (places_at rows site) k → p < length log
row-within log rows site k p h b e = place-within site log k p (e ∙ ap (λ ps. slice_get ps k) (h.each site b))
