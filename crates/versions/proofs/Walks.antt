-- Where the way past greater keys ends at once, as the linked order tells by the element right behind.
use Rattle.std.proofs.Common.{◌≡◌, ◌≢◌, ℕ, ◌<◌, ◌⊎◌, inl, inr, Bool, true, false, cond, eqb, eqb-true, eq-eqb, Option, Some, None}
use Rattle.std.proofs.Common.{List, [], ◌∷◌, map, refl, ap, ◌∙◌, sym, subst, IfSome}
use mathlib.Core.Path.{ap₂}
use Rattle.std.proofs.Math.Dec.{ltb}
use Rattle.std.specs.List.{AllByRecursion}
use Rattle.std.proofs.lemmas.Bool.{cond-true, cond-false, both_ways, false_from_ne_true}
use Rattle.opid.specs.declared.stamp.Stamp.{Stamp}
use Rattle.opid.specs.Stamps.{is_before}
use Rattle.rga_list.specs.Entries as rga
use Rattle.counted_tree.specs.declared.entry.Entry.{Entry}
use Rattle.counted_tree.specs.Changes.{Lists}
use Rattle.counted_tree.specs.Greater.{passed, last_greater}
use Rattle.versions.specs.Internal.Joined.{key_of, plain}
use Rattle.versions.proofs.Keys.{key_before}

-- an element that stands further on is another one
first-other : (k n : ℕ) (es : List rga.Entry) → AllByRecursion (λ (f : rga.Entry). f.elem ≢ k) es → rga.first_of es ≡ Some n → k ≢ n
first-other k n [] h f = absurd (cc)
first-other k n (y ∷ ys) h f = λ q. h.0 (cc)

after-other : (k j n : ℕ) (es : List rga.Entry) → AllByRecursion (λ (f : rga.Entry). f.elem ≢ k) es → rga.elem_after j es ≡ Some n → k ≢ n
after-other k j n [] h f = absurd (cc)
after-other k j n (y ∷ ys) h f = go (eqb y.elem j) f (after-other k j n ys h.1)
  where
    go : (t : Bool) → cond t (rga.first_of ys) (rga.elem_after j ys) ≡ Some n → (rga.elem_after j ys ≡ Some n → k ≢ n) → k ≢ n
    go true f ih = first-other k n ys h.1 f
    go false f ih = ih f

entry-past : (n : ℕ) (x : rga.Entry) (xs : List rga.Entry) → x.elem ≢ n → rga.entry_of n (x ∷ xs) ≡ rga.entry_of n xs
entry-past n x xs d = cond-false _ _ _ (false_from_ne_true (eqb x.elem n) (λ e. d (eqb-true x.elem n e)))

-- the way passes none where the first key isn't greater
passed-none : (key n : ℕ) (last : Option ℕ) (z : rga.Entry) (es : List rga.Entry) → rga.first_of es ≡ Some n → rga.entry_of n es ≡ Some z
    → ltb key (key_of z.stamp) ≡ false → passed key last (map plain es) ≡ last
passed-none key n last z [] f e b = refl
passed-none key n last z (y ∷ ys) f e b =
    let here : y.elem ≡ n = cc in
    let entry : Some y ≡ Some z = sym (cond-true _ _ _ (eq-eqb y.elem n here)) ∙ e in
    let same : y ≡ z = cc in
    cond-false _ _ _ (ap (λ (x : rga.Entry). ltb key (key_of x.stamp)) same ∙ b)

greater-none : (key k n : ℕ) (z : rga.Entry) (es : List rga.Entry) → rga.AreOfOwn es → rga.elem_after k es ≡ Some n
    → rga.entry_of n es ≡ Some z → ltb key (key_of z.stamp) ≡ false → last_greater (Some k) key (map plain es) ≡ Some k
greater-none key k n z [] own f e b = absurd (cc)
greater-none key k n z (x ∷ xs) own f e b = go (eqb x.elem k) f (λ g. greater-none key k n z xs own.1 g)
  where
    go : (t : Bool) → cond t (rga.first_of xs) (rga.elem_after k xs) ≡ Some n
        → (rga.elem_after k xs ≡ Some n → rga.entry_of n xs ≡ Some z → ltb key (key_of z.stamp) ≡ false
        → last_greater (Some k) key (map plain xs) ≡ Some k)
        → cond t (passed key (Some k) (map plain xs)) (last_greater (Some k) key (map plain xs)) ≡ Some k
    go true f ih = passed-none key n (Some k) z xs f (sym (entry-past n x xs (first-other x.elem n xs own.0 f)) ∙ e) b
    go false f ih = ih f (sym (entry-past n x xs (after-other x.elem k n xs own.0 f)) ∙ e) b

-- the stamp right behind isn't greater
stays : (from : Option ℕ) (n : ℕ) (s : Stamp) (z : rga.Entry) (es : List rga.Entry) → s.site < 32 → z.stamp.site < 32 → rga.AreOfOwn es
    → rga.next_of from es ≡ Some n → rga.entry_of n es ≡ Some z → is_before s z.stamp ≡ false
    → last_greater from (key_of s) (map plain es) ≡ from
stays None n s z es p q own f e b = passed-none (key_of s) n None z es f e (key_before s z.stamp p q ∙ b)
stays (Some k) n s z es p q own f e b = greater-none (key_of s) k n z es own f e (key_before s z.stamp p q ∙ b)

pub not-passed : (from : Option ℕ) (n key : ℕ) (s : Stamp) (z : rga.Entry) (es : List rga.Entry) (xs : List Entry) → s.site < 32
    → z.stamp.site < 32 → rga.AreOfOwn es → rga.next_of from es ≡ Some n → rga.entry_of n es ≡ Some z → is_before s z.stamp ≡ false
    → key ≡ key_of s → xs ≡ map plain es → from ≡ last_greater from key xs
not-passed from n key s z es xs p q own f e b k same =
    sym (ap₂ (last_greater from) k same ∙ stays from n s z es p q own f e b)

passed-end : (key : ℕ) (last : Option ℕ) (es : List rga.Entry) → rga.first_of es ≡ None → passed key last (map plain es) ≡ last
passed-end key last [] f = refl
passed-end key last (y ∷ ys) f = absurd (cc)

greater-end : (from : Option ℕ) (key : ℕ) (es : List rga.Entry) → IfSome from (λ k. Lists k (map plain es)) → rga.next_of from es ≡ None
    → last_greater from key (map plain es) ≡ from
greater-end None key es h f = passed-end key None es f
greater-end (Some k) key [] h f = absurd h
greater-end (Some k) key (x ∷ xs) h f = go (eqb x.elem k) refl h f (greater-end (Some k) key xs)
  where
    go : (t : Bool) → eqb x.elem k ≡ t → (x.elem ≡ k) ⊎ Lists k (map plain xs) → cond t (rga.first_of xs) (rga.elem_after k xs) ≡ None
        → (Lists k (map plain xs) → rga.elem_after k xs ≡ None → last_greater (Some k) key (map plain xs) ≡ Some k)
        → cond t (passed key (Some k) (map plain xs)) (last_greater (Some k) key (map plain xs)) ≡ Some k
    go true e h f ih = passed-end key (Some k) xs f
    go false e (inl q) f ih = absurd (both_ways (eqb x.elem k) e (eq-eqb x.elem k q))
    go false e (inr g) f ih = ih g f

-- none stands behind
pub none-behind : (from : Option ℕ) (key : ℕ) (es : List rga.Entry) (xs : List Entry) → IfSome from (λ k. Lists k xs)
    → rga.next_of from es ≡ None → xs ≡ map plain es → from ≡ last_greater from key xs
none-behind from key es xs h f same =
    sym (ap (last_greater from key) same
    ∙ greater-end from key es (subst (λ (l : List Entry). IfSome from (λ k. Lists k l)) same h) f)
