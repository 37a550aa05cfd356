-- Stamps as numbers: the tree's way past greater keys is the list's way past greater stamps.
use Rattle.std.proofs.Common.{◌≡◌, ℕ, ◌<◌, ◌≤◌, ◌⊎◌, inl, inr, ◌&&◌, Bool, true, false, cond, eqb, eqb-true, eq-eqb, Option, Some, None}
use Rattle.std.proofs.Common.{List, [], ◌∷◌, map, length, refl, ap, ◌∙◌, sym, subst, arith, IfSome}
use Rattle.std.specs.Prelude.{option_and_then}
use Rattle.std.specs.Cmp.Derive.{both_true}
use Rattle.std.proofs.Math.Dec.{ltb}
use Rattle.std.specs.List.{AllByRecursion}
use Rattle.std.proofs.lemmas.Bool.{cases_lt, ltb_from_iff, ltb-true, lt-ltb, or_cases, or_left, or_right, and_parts, both_ways}
use Rattle.opid.specs.declared.stamp.Stamp.{Stamp}
use Rattle.opid.specs.Stamps.{is_before, is_same}
use Rattle.rga_list.specs.Entries as rga
use Rattle.rga_list.specs.Listed.{listed}
use Rattle.rga_list.proofs.Refused.{accepted}
use Rattle.rga_list.proofs.Shown.{has_stamp-listed}
use Rattle.opid.specs.Operations.{Operation}
use Rattle.opid.specs.Lawful.{IsLawful}
use Rattle.opid.proofs.Logs.{IsSound-lawful}
use Rattle.versions.proofs.Changes.{names-listed, elements-listed}
use Rattle.versions.proofs.Integrated.{sites-listed}
use Rattle.counted_tree.specs.declared.entry.Entry.{Entry}
use Rattle.counted_tree.specs.Changes.{Lists, put, put_after}
use Rattle.counted_tree.specs.Greater.{passed, last_greater}
use Rattle.versions.specs.Internal.Joined.{key_of, plain}
use Rattle.versions.proofs.Joins.{has_elem, elem_listed}

-- the keys of two stamps are ordered as these are
pub key_before : (a b : Stamp) → a.site < 32 → b.site < 32 → ltb (key_of a) (key_of b) ≡ is_before a b
key_before a b p q = sym (ltb_from_iff (λ e. less e, λ l. before l (cases_lt a.sum b.sum)))
  where
    less : is_before a b ≡ true → key_of a < key_of b
    less e = go (or_cases (ltb a.sum b.sum) (eqb a.sum b.sum && ltb a.site b.site) e)
      where
        go : (ltb a.sum b.sum ≡ true) ⊎ ((eqb a.sum b.sum && ltb a.site b.site) ≡ true) → key_of a < key_of b
        go (inl l) = let lower : a.sum < b.sum = ltb-true a.sum b.sum l in omega arith
        go (inr l) =
            let both = and_parts (eqb a.sum b.sum) (ltb a.site b.site) l in
            let same : a.sum ≡ b.sum = eqb-true a.sum b.sum both.0 in
            let lower : a.site < b.site = ltb-true a.site b.site both.1 in
            omega arith

    before : key_of a < key_of b → (a.sum < b.sum) ⊎ (b.sum ≤ a.sum) → is_before a b ≡ true
    before l (inl h) = or_left (ltb a.sum b.sum) (eqb a.sum b.sum && ltb a.site b.site) (lt-ltb a.sum b.sum h)
    before l (inr h) = or_right (ltb a.sum b.sum) (eqb a.sum b.sum && ltb a.site b.site)
        (both_true (eq-eqb a.sum b.sum (omega arith)) (lt-ltb a.site b.site (omega arith)))

-- the last one on the way
passed-plain : (s : Stamp) (o : Option ℕ) (es : List rga.Entry) → s.site < 32 → AllByRecursion (λ e. e.stamp.site < 32) es
    → passed (key_of s) o (map plain es) ≡ rga.passed s o es
passed-plain s o [] p h = refl
passed-plain s o (y ∷ ys) p h =
    ap (λ t. cond t (passed (key_of s) (Some y.elem) (map plain ys)) o) (key_before s y.stamp p h.0)
    ∙ ap (λ v. cond (is_before s y.stamp) v o) (passed-plain s (Some y.elem) ys p h.1)

passed-after : (p s : Stamp) (k : ℕ) (es : List rga.Entry) → s.site < 32 → AllByRecursion (λ e. e.stamp.site < 32) es
    → AllByRecursion (λ (y : rga.Entry). is_same p y.stamp ≡ eqb y.elem k) es
    → last_greater (Some k) (key_of s) (map plain es) ≡ rga.behind (Some p) s es
passed-after p s k [] b h n = refl
passed-after p s k (y ∷ ys) b h n =
    ap (λ t. cond t (passed (key_of s) (Some k) (map plain ys)) (last_greater (Some k) (key_of s) (map plain ys))) (sym n.0)
    ∙ go (is_same p y.stamp) (sym n.0) (passed-after p s k ys b h.1 n.1)
  where
    go : (t : Bool) → eqb y.elem k ≡ t → last_greater (Some k) (key_of s) (map plain ys) ≡ rga.behind (Some p) s ys
        → cond t (passed (key_of s) (Some k) (map plain ys)) (last_greater (Some k) (key_of s) (map plain ys))
        ≡ cond t (rga.passed s (Some y.elem) ys) (rga.behind (Some p) s ys)
    go true e ih = ap (λ j. passed (key_of s) (Some j) (map plain ys)) (sym (eqb-true y.elem k e))
        ∙ passed-plain s (Some y.elem) ys b h.1
    go false e ih = ih

-- the tree tells where an insertion stands, from its parent's element on
last_greater-behind : (o : Option Stamp) (s : Stamp) (from : Option ℕ) (es : List rga.Entry) → s.site < 32
    → AllByRecursion (λ e. e.stamp.site < 32) es → rga.parent_refusal es o s ≡ None
    → from ≡ option_and_then (λ p. rga.elem_of p es) o
    → ((p : Stamp) (k : ℕ) → o ≡ Some p → rga.elem_of p es ≡ Some k
    → AllByRecursion (λ (y : rga.Entry). is_same p y.stamp ≡ eqb y.elem k) es)
    → last_greater from (key_of s) (map plain es) ≡ rga.behind o s es
last_greater-behind None s from es b h a f n = ap (λ v. last_greater v (key_of s) (map plain es)) f ∙ passed-plain s None es b h
last_greater-behind (Some p) s from es b h a f n = go (rga.elem_of p es) refl
  where
    go : (k : Option ℕ) → rga.elem_of p es ≡ k → last_greater from (key_of s) (map plain es) ≡ rga.behind (Some p) s es
    go (Some k) e = ap (λ v. last_greater v (key_of s) (map plain es)) (f ∙ e) ∙ passed-after p s k es b h (n p k refl e)
    go None e = absurd (has_elem p es (accepted es p s a).0 e)

-- an element put in, in the list and in the tree
pub put-plain : (o : Option ℕ) (x : rga.Entry) (es : List rga.Entry) → map plain (rga.put_behind o x es) ≡ put o (plain x) (map plain es)
put-plain None x es = refl
put-plain (Some k) x [] = refl
put-plain (Some k) x (y ∷ ys) = go (eqb y.elem k) (put-plain (Some k) x ys)
  where
    go : (t : Bool) → map plain (rga.put_behind (Some k) x ys) ≡ put (Some k) (plain x) (map plain ys)
        → map plain (cond t (y ∷ x ∷ ys) (y ∷ rga.put_behind (Some k) x ys))
        ≡ cond t (plain y ∷ plain x ∷ map plain ys) (plain y ∷ put_after k (plain x) (map plain ys))
    go true ih = refl
    go false ih = ap (λ l. plain y ∷ l) ih

-- the same for the elements of a log
pub stands : (log : List Operation) (es : List rga.Entry) (o : Option Stamp) (s : Stamp) (from : Option ℕ) → IsLawful log → es ≡ listed log
    → s.site < 32 → rga.parent_refusal es o s ≡ None → from ≡ option_and_then (λ p. rga.elem_of p es) o
    → last_greater from (key_of s) (map plain es) ≡ rga.behind o s es
stands log es o s from l e b a f =
    last_greater-behind o s from es b (subst (AllByRecursion (λ (x : rga.Entry). x.stamp.site < 32)) (sym e) (sites-listed log l)) a f
    (λ p k q r. subst (AllByRecursion (λ (y : rga.Entry). is_same p y.stamp ≡ eqb y.elem k)) (sym e)
    (names-listed log (IsSound-lawful log l) p
    (sym (has_stamp-listed log (IsSound-lawful log l) p) ∙ ap (λ (xs : List rga.Entry). rga.has_stamp xs p) (sym e)
    ∙ (accepted es p s (ap (λ v. rga.parent_refusal es v s) (sym q) ∙ a)).0)
    k (ap (rga.elem_of p) (sym e) ∙ r)))

passed-lists : (key : ℕ) (x : Entry) (xs : List Entry) → IfSome (passed key (Some x.elem) xs) (λ e. Lists e (x ∷ xs))
passed-lists key x [] = inl refl
passed-lists key x (y ∷ ys) = go (ltb key y.key) (passed key (Some y.elem) ys) (passed-lists key y ys)
  where
    go : (t : Bool) (o : Option ℕ) → IfSome o (λ e. Lists e (y ∷ ys)) → IfSome (cond t o (Some x.elem)) (λ e. Lists e (x ∷ y ∷ ys))
    go true None h = tt
    go true (Some e) h = inr h
    go false o h = inl refl

-- where the tree's way ends there is an element
pub last_greater-lists : (o : Option ℕ) (key : ℕ) (xs : List Entry) → IfSome o (λ e. Lists e xs)
    → IfSome (last_greater o key xs) (λ e. Lists e xs)
last_greater-lists None key [] h = tt
last_greater-lists None key (x ∷ xs) h = go (ltb key x.key)
  where
    go : (t : Bool) → IfSome (cond t (passed key (Some x.elem) xs) None) (λ e. Lists e (x ∷ xs))
    go true = passed-lists key x xs
    go false = tt
last_greater-lists (Some k) key [] h = absurd h
last_greater-lists (Some k) key (x ∷ xs) h = go (eqb x.elem k) refl h (last_greater-lists (Some k) key xs)
  where
    later : (o : Option ℕ) → IfSome o (λ e. Lists e xs) → IfSome o (λ e. Lists e (x ∷ xs))
    later None g = tt
    later (Some e) g = inr g

    go : (t : Bool) → eqb x.elem k ≡ t → (x.elem ≡ k) ⊎ Lists k xs
        → (Lists k xs → IfSome (last_greater (Some k) key xs) (λ e. Lists e xs))
        → IfSome (cond t (passed key (Some k) xs) (last_greater (Some k) key xs)) (λ e. Lists e (x ∷ xs))
    go true e g ih = subst (λ j. IfSome (passed key (Some j) xs) (λ i. Lists i (x ∷ xs))) (eqb-true x.elem k e) (passed-lists key x xs)
    go false e (inl q) ih = absurd (both_ways (eqb x.elem k) e (eq-eqb x.elem k q))
    go false e (inr g) ih = later (last_greater (Some k) key xs) (ih g)

-- an element of the tree's list is one of the list's elements
listed-within : (n : ℕ) (o : Option ℕ) (es : List rga.Entry) → AllByRecursion (λ (e : rga.Entry). e.elem < n) es
    → IfSome o (λ k. Lists k (map plain es)) → IfSome o (λ k. k < n)
listed-within n None es h l = tt
listed-within n (Some k) [] h l = absurd l
listed-within n (Some k) (e ∷ es) h (inl q) = omega (arith, h.0, q)
listed-within n (Some k) (e ∷ es) h (inr l) = listed-within n (Some k) es h.1 l

-- and so it is below their count
pub below-count : (log : List Operation) (es : List rga.Entry) (o : Option ℕ) → IsLawful log → es ≡ listed log
    → IfSome o (λ k. Lists k (map plain es)) → IfSome o (λ k. k < length es)
below-count log es o l e h = listed-within (length es) o es
    (subst (λ (xs : List rga.Entry). AllByRecursion (λ (y : rga.Entry). y.elem < length xs) xs) (sym e)
    (elements-listed log (IsSound-lawful log l))) h

-- the parent's element is in the tree's list
pub parent-listed : (es : List rga.Entry) (o : Option Stamp) (from : Option ℕ) → from ≡ option_and_then (λ p. rga.elem_of p es) o
    → IfSome from (λ k. Lists k (map plain es))
parent-listed es o None f = tt
parent-listed es None (Some k) f = cc
parent-listed es (Some p) (Some k) f = elem_listed p k es (sym f)
