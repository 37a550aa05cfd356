-- The first of a list that is ready: where it stands, and the others.
use Rattle.std.proofs.Common.{◌≡◌, ℕ, suc, ◌+◌, ◌<◌, ◌≤◌, Bool, true, false, cond, Some, None, List, [], ◌∷◌, length, get_or, refl, ap, ◌∙◌}
use Rattle.std.proofs.Common.{sym, arith, position}
use Rattle.std.specs.Prelude.{not, nat_lt}
use Rattle.std.specs.List.{remove, position_or_len}
use Rattle.std.proofs.lemmas.Bool.Decides.{nat_tests}
use Rattle.opid.specs.Clocks.{is_next}
use Rattle.opid.specs.Operations.{Operation}
use Rattle.opid.specs.Held.{first_ready, without_first_ready}
use Rattle.holdback.proofs.Firsts.{first_ready-Some}

-- the place of the first that is ready, or how many there are
abbrev place : List ℕ → List Operation → ℕ
place clock xs = position_or_len (λ x. is_next x.site x.clock clock) xs

get_or-here : (t : Bool) (x : Operation) (xs : List Operation) (n : ℕ) (d : Operation) → t ≡ false
    → get_or (x ∷ xs) (cond (not t) (1 + n) 0) d ≡ get_or xs n d
get_or-here t x xs n d e = ap (λ b. get_or (x ∷ xs) (cond (not b) (1 + n) 0) d) e ∙ ap (λ k. get_or (x ∷ xs) k d) one
  where
    one : 1 + n ≡ suc n
    one = omega arith

found : (clock : List ℕ) (xs : List Operation) (d : Operation) → place clock xs < length xs
    → first_ready clock xs ≡ Some (get_or xs (place clock xs) d)
found clock [] d l = absurd (omega arith)
found clock (x ∷ xs) d l = go (is_next x.site x.clock clock) refl l (found clock xs d)
  where
    go : (t : Bool) → is_next x.site x.clock clock ≡ t → cond (not t) (1 + place clock xs) 0 < length (x ∷ xs)
        → (place clock xs < length xs → first_ready clock xs ≡ Some (get_or xs (place clock xs) d))
        → cond t (Some x) (first_ready clock xs) ≡ Some (get_or (x ∷ xs) (cond (not t) (1 + place clock xs) 0) d)
    go true e m ih = refl
    go false e m ih = ih (omega arith) ∙ ap Some (sym (get_or-here false x xs (place clock xs) d refl))

not_found : (clock : List ℕ) (xs : List Operation) → length xs ≤ place clock xs → first_ready clock xs ≡ None
not_found clock [] l = refl
not_found clock (x ∷ xs) l = go (is_next x.site x.clock clock) l (not_found clock xs)
  where
    go : (t : Bool) → length (x ∷ xs) ≤ cond (not t) (1 + place clock xs) 0 → (length xs ≤ place clock xs → first_ready clock xs ≡ None)
        → cond t (Some x) (first_ready clock xs) ≡ None
    go true m ih = absurd (omega arith)
    go false m ih = ih (omega arith)

-- without the first that is ready; unchanged where none is
removed : (clock : List ℕ) (xs : List Operation) → without_first_ready clock xs ≡ remove xs (place clock xs)
removed clock [] = refl
removed clock (x ∷ xs) = go (is_next x.site x.clock clock) (removed clock xs)
  where
    one : 1 + place clock xs ≡ suc (place clock xs)
    one = omega arith

    go : (t : Bool) → without_first_ready clock xs ≡ remove xs (place clock xs)
        → cond t xs (x ∷ without_first_ready clock xs) ≡ remove (x ∷ xs) (cond (not t) (1 + place clock xs) 0)
    go true ih = refl
    go false ih = ap (λ ys. x ∷ ys) ih ∙ ap (remove (x ∷ xs)) (sym one)

unchanged : (clock : List ℕ) (xs : List Operation) → length xs ≤ place clock xs → without_first_ready clock xs ≡ xs
unchanged clock [] l = refl
unchanged clock (x ∷ xs) l = go (is_next x.site x.clock clock) l (unchanged clock xs)
  where
    go : (t : Bool) → length (x ∷ xs) ≤ cond (not t) (1 + place clock xs) 0
        → (length xs ≤ place clock xs → without_first_ready clock xs ≡ xs) → cond t xs (x ∷ without_first_ready clock xs) ≡ x ∷ xs
    go true m ih = absurd (omega arith)
    go false m ih = ap (λ ys. x ∷ ys) (ih (omega arith))

-- a place that was found, and none
some_place : (clock : List ℕ) (xs : List Operation) (i : ℕ) → Some i ≡ position (λ x. is_next x.site x.clock clock) xs
    → (i ≡ place clock xs) × (place clock xs < length xs)
some_place clock xs i e = go (nat_lt (place clock xs) (length xs)) refl e
  where
    go : (t : Bool) → nat_lt (place clock xs) (length xs) ≡ t → Some i ≡ cond t (Some (place clock xs)) None
        → (i ≡ place clock xs) × (place clock xs < length xs)
    go true h e = (cc, grind (arith, nat_tests))
    go false h e = cc

no_place : (clock : List ℕ) (xs : List Operation) → None ≡ position (λ x. is_next x.site x.clock clock) xs → length xs ≤ place clock xs
no_place clock xs e = go (nat_lt (place clock xs) (length xs)) refl e
  where
    go : (t : Bool) → nat_lt (place clock xs) (length xs) ≡ t → None ≡ cond t (Some (place clock xs)) None → length xs ≤ place clock xs
    go true h e = cc
    go false h e = grind (arith, nat_tests)

pub taken : (clock : List ℕ) (xs : List Operation) (i : ℕ) (x : Operation) → Some i ≡ position (λ x. is_next x.site x.clock clock) xs
    → x ≡ get_or xs i x → Some x ≡ first_ready clock xs
taken clock xs i x e h =
    let at = some_place clock xs i e in
    ap Some (h ∙ ap (λ k. get_or xs k x) at.0) ∙ sym (found clock xs x at.1)

pub left : (clock : List ℕ) (xs : List Operation) (i : ℕ) → Some i ≡ position (λ x. is_next x.site x.clock clock) xs
    → remove xs i ≡ without_first_ready clock xs
left clock xs i e =
    let at = some_place clock xs i e in
    ap (remove xs) at.0 ∙ sym (removed clock xs)

pub none_taken : (clock : List ℕ) (xs : List Operation) → None ≡ position (λ x. is_next x.site x.clock clock) xs
    → None ≡ first_ready clock xs
none_taken clock xs e = sym (not_found clock xs (no_place clock xs e))

pub all_left : (clock : List ℕ) (xs : List Operation) → None ≡ position (λ x. is_next x.site x.clock clock) xs
    → xs ≡ without_first_ready clock xs
all_left clock xs e = sym (unchanged clock xs (no_place clock xs e))

pub taken-ready : (clock : List ℕ) (xs : List Operation) (i : ℕ) (x : Operation) → Some i ≡ position (λ x. is_next x.site x.clock clock) xs
    → x ≡ get_or xs i x → is_next x.site x.clock clock ≡ true
taken-ready clock xs i x e h = (first_ready-Some clock xs x (sym (taken clock xs i x e h))).ready
