-- An element that is put in right behind where the walk ends stands where the walk puts it.
use Rattle.std.proofs.Common.{◌≡◌, ◌≢◌, ℕ, ◌⊎◌, inl, inr, Bool, true, false, cond, ◌||◌, eqb, eqb-true, eq-eqb, Option, Some, None, List}
use Rattle.std.proofs.Common.{[], ◌∷◌, refl, ap, ◌∙◌, sym}
use Rattle.std.specs.List.{AllByRecursion as Each}
use Rattle.std.proofs.lemmas.Bool.{cond-true, cond-false, false_from_ne_true}
use Rattle.opid.specs.declared.stamp.Stamp.{Stamp}
use Rattle.opid.specs.Stamps.{is_before, is_same}
use Rattle.rga_list.specs.Entries.{Entry, stand, stand_after, placed, passed, behind, put_behind, has_stamp, AreOfOwn, parent_refusal}
use Rattle.rga_list.proofs.Refused.{accepted}

-- one of the entries is of the element
abbrev IsOf : ℕ → List Entry → Type 0
IsOf j [] = ⊥
IsOf j (e ∷ es) = (e.elem ≡ j) ⊎ IsOf j es

other : (k j : ℕ) (es : List Entry) → Each (λ f. f.elem ≢ k) es → IsOf j es → k ≢ j
other k j [] h o = absurd o
other k j (e ∷ es) h (inl q) = λ same. h.0 (q ∙ sym same)
other k j (e ∷ es) h (inr o) = other k j es h.1 o

-- what was passed last is one of those that were passed, or the one before them
passed-some : (s : Stamp) (y : Entry) (ys : List Entry) → (j : ℕ) × (passed s (Some y.elem) ys ≡ Some j) × IsOf j (y ∷ ys)
passed-some s y [] = (y.elem, refl, inl refl)
passed-some s y (z ∷ zs) = go (is_before s z.stamp) (passed-some s z zs)
  where
    go : (t : Bool) → (j : ℕ) × (passed s (Some z.elem) zs ≡ Some j) × IsOf j (z ∷ zs)
        → (j : ℕ) × (cond t (passed s (Some z.elem) zs) (Some y.elem) ≡ Some j) × IsOf j (y ∷ z ∷ zs)
    go true (j, q, o) = (j, q, inr o)
    go false ih = (y.elem, refl, inl refl)

behind-some : (p s : Stamp) (es : List Entry) → has_stamp es p ≡ true → (j : ℕ) × (behind (Some p) s es ≡ Some j) × IsOf j es
behind-some p s [] h = cc
behind-some p s (y ∷ ys) h = go (is_same p y.stamp) (behind-some p s ys) h
  where
    go : (t : Bool) → (has_stamp ys p ≡ true → (j : ℕ) × (behind (Some p) s ys ≡ Some j) × IsOf j ys) → (t || has_stamp ys p) ≡ true
        → (j : ℕ) × (cond t (passed s (Some y.elem) ys) (behind (Some p) s ys) ≡ Some j) × IsOf j (y ∷ ys)
    go true ih h = passed-some s y ys
    go false ih h = let r = ih h in (r.0, r.1, inr r.2)

-- past another element
put_behind-past : (o : Option ℕ) (j : ℕ) (x y : Entry) (ys : List Entry) → o ≡ Some j → y.elem ≢ j
    → put_behind o x (y ∷ ys) ≡ y ∷ put_behind o x ys
put_behind-past o j x y ys q d =
    ap (λ v. put_behind v x (y ∷ ys)) q ∙ cond-false _ _ _ (false_from_ne_true (eqb y.elem j) (λ e. d (eqb-true y.elem j e)))
    ∙ ap (λ v. y ∷ put_behind v x ys) (sym q)

stand-behind : (x y : Entry) (ys : List Entry) → AreOfOwn (y ∷ ys)
    → put_behind (passed x.stamp (Some y.elem) ys) x (y ∷ ys) ≡ y ∷ stand x ys
stand-behind x y [] own = cond-true _ _ _ (eq-eqb y.elem y.elem refl)
stand-behind x y (z ∷ zs) own = go (is_before x.stamp z.stamp) (stand-behind x z zs own.1)
  where
    go : (t : Bool) → put_behind (passed x.stamp (Some z.elem) zs) x (z ∷ zs) ≡ z ∷ stand x zs
        → put_behind (cond t (passed x.stamp (Some z.elem) zs) (Some y.elem)) x (y ∷ z ∷ zs)
        ≡ y ∷ cond t (z ∷ stand x zs) (x ∷ z ∷ zs)
    go true ih =
        let last = passed-some x.stamp z zs in
        put_behind-past (passed x.stamp (Some z.elem) zs) last.0 x y (z ∷ zs) last.1 (other y.elem last.0 (z ∷ zs) own.0 last.2)
        ∙ ap (λ v. y ∷ v) ih
    go false ih = cond-true _ _ _ (eq-eqb y.elem y.elem refl)

-- the walk puts it right behind the last element passed
pub placed-behind : (o : Option Stamp) (x : Entry) (es : List Entry) → AreOfOwn es → parent_refusal es o x.stamp ≡ None
    → placed o x es ≡ put_behind (behind o x.stamp es) x es
placed-behind None x [] own h = refl
placed-behind None x (y ∷ ys) own h = go (is_before x.stamp y.stamp)
  where
    go : (t : Bool) → cond t (y ∷ stand x ys) (x ∷ y ∷ ys)
        ≡ put_behind (cond t (passed x.stamp (Some y.elem) ys) None) x (y ∷ ys)
    go true = sym (stand-behind x y ys own)
    go false = refl
placed-behind (Some p) x es own h = after es own (accepted es p x.stamp h).0
  where
    after : (es : List Entry) → AreOfOwn es → has_stamp es p ≡ true → stand_after p x es ≡ put_behind (behind (Some p) x.stamp es) x es
    after [] own there = cc
    after (y ∷ ys) own there = go (is_same p y.stamp) there (after ys own.1)
      where
        go : (t : Bool) → (t || has_stamp ys p) ≡ true
            → (has_stamp ys p ≡ true → stand_after p x ys ≡ put_behind (behind (Some p) x.stamp ys) x ys)
            → cond t (y ∷ stand x ys) (y ∷ stand_after p x ys)
            ≡ put_behind (cond t (passed x.stamp (Some y.elem) ys) (behind (Some p) x.stamp ys)) x (y ∷ ys)
        go true there ih = sym (stand-behind x y ys own)
        go false there ih =
            let last = behind-some p x.stamp ys there in
            ap (λ v. y ∷ v) (ih there)
            ∙ sym (put_behind-past (behind (Some p) x.stamp ys) last.0 x y ys last.1 (other y.elem last.0 ys own.0 last.2))
