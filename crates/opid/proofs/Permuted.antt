-- The preorder has each element exactly once.
use Rattle.std.proofs.Common.{◌≡◌, ℕ, ◌+◌, ◌≤◌, Bool, true, false, cond, Option, Some, None, List, [], ◌∷◌, ◌++◌, refl, ap, ◌∙◌, sym, subst}
use Rattle.std.proofs.Common.{arith, append_assoc, inl, inr}
use Rattle.std.specs.Prelude.{count_by}
use Rattle.std.specs.List.{AllByRecursion as Each, list_any}
use Rattle.std.specs.List.Sorted.{IsPermutation}
use Rattle.std.proofs.lemmas.Bool.{both_ways, false_from_ne_true, or_cases, cond-true, cond-false}
use Rattle.std.proofs.lemmas.List.Folds.{list_any-append}
use Rattle.std.proofs.lemmas.List.Sorted.{IsPermutation-refl, IsPermutation-trans, IsPermutation-cons, IsPermutation-append_comm}
use Rattle.std.proofs.lemmas.List.Sorted.{list_any-IsPermutation, sum_by-IsPermutation}
use Rattle.std.proofs.lemmas.List.Sums.{sum_by-cons}
use Rattle.opid.specs.declared.stamp.Stamp.{Stamp}
use Rattle.opid.specs.Stamps.{is_before, is_same}
use Rattle.opid.specs.Operations.{Insertion}
use Rattle.opid.specs.Tree.{insert_rising, rising, preorder}
use Rattle.opid.specs.Lawful.{AreApart}
use Rattle.opid.proofs.Order.{is_before-asym, is_same-eq, is_before-not_same, is_same-refl}
use Rattle.opid.proofs.Walk.{walk, Above, Childless, IsRising, IsOlder, ParentsOlder, IsOlder-trans, IsOlder-not_same, Each-weaker}
use Rattle.opid.proofs.Walk.{append-nil, preorder-insert_rising}
use Rattle.opid.proofs.Rising.{HasParent, IsTree}
use Rattle.opid.proofs.Between.{walk-between, insert_rising-between, Between-permutation}

pub rising-permutation : (xs : List Insertion) → IsPermutation xs (rising xs)
rising-permutation [] = IsPermutation-refl []
rising-permutation (x ∷ xs) =
    IsPermutation-trans (x ∷ xs) (x ∷ rising xs) (insert_rising x (rising xs))
    (IsPermutation-cons x xs (rising xs) (rising-permutation xs))
    (Between-permutation x (rising xs) (insert_rising x (rising xs)) (insert_rising-between x (rising xs)))

Each-front : {X : Type 0} (P : X → Type 0) (xs ys : List X) → Each P (xs ++ ys) → Each P xs
Each-front P [] ys h = tt
Each-front P (x ∷ xs) ys h = (h.0, Each-front P xs ys h.1)

Each-back : {X : Type 0} (P : X → Type 0) (xs ys : List X) → Each P (xs ++ ys) → Each P ys
Each-back P [] ys h = h
Each-back P (x ∷ xs) ys h = Each-back P xs ys h.1

IsRising-front : (xs ys : List Insertion) → IsRising (xs ++ ys) → IsRising xs
IsRising-front [] ys r = tt
IsRising-front (x ∷ xs) ys r = (Each-front (λ y. is_before x.stamp y.stamp ≡ true) xs ys r.0, IsRising-front xs ys r.1)

IsRising-back : (xs ys : List Insertion) → IsRising (xs ++ ys) → IsRising ys
IsRising-back [] ys r = r
IsRising-back (x ∷ xs) ys r = IsRising-back xs ys r.1

-- those in front of x are before it
IsRising-below : (xs : List Insertion) (x : Insertion) (ys : List Insertion) → IsRising (xs ++ x ∷ ys)
    → Each (λ y. is_before y.stamp x.stamp ≡ true) xs
IsRising-below [] x ys r = tt
IsRising-below (y ∷ xs) x ys r = ((Each-back (λ z. is_before y.stamp z.stamp ≡ true) xs (x ∷ ys) r.0).0, IsRising-below xs x ys r.1)

insert_rising-last : (x : Insertion) (xs : List Insertion) → Each (λ y. is_before y.stamp x.stamp ≡ true) xs
    → insert_rising x xs ≡ xs ++ x ∷ []
insert_rising-last x [] h = refl
insert_rising-last x (y ∷ ys) h = cond-false _ _ _ (is_before-asym y.stamp x.stamp h.0) ∙ ap (λ r. y ∷ r) (insert_rising-last x ys h.1)

-- what is before x is none of x and those after it
not_from : (p : Stamp) (x : Insertion) (ys : List Insertion) → is_before p x.stamp ≡ true → Above x.stamp ys
    → list_any (λ y. is_same p y.stamp) (x ∷ ys) ≡ false
not_from p x ys h a = false_from_ne_true (list_any (λ y. is_same p y.stamp) (x ∷ ys))
    (λ e. go (x ∷ ys) (
      h,
      Each-weaker (λ z. is_before x.stamp z.stamp ≡ true) (λ z. is_before p z.stamp ≡ true)
          (λ z l. IsOlder-trans (Some p) x.stamp z.stamp h l) ys a,
    ) e)
  where
    go : (zs : List Insertion) → Each (λ z. is_before p z.stamp ≡ true) zs → list_any (λ y. is_same p y.stamp) zs ≡ true → ⊥
    go [] b e = cc
    go (z ∷ zs) b e = elim (or_cases (is_same p z.stamp) (list_any (λ y. is_same p y.stamp) zs) e) [
      | inl q ↦ both_ways _ (is_before-not_same p z.stamp b.0) q
      | inr q ↦ go zs b.1 q
    ]

parent_in_front : (front : List Insertion) (x : Insertion) (ys : List Insertion) (o : Option Stamp) → IsOlder o x.stamp → Above x.stamp ys
    → HasParent (front ++ x ∷ ys) o → HasParent front o
parent_in_front front x ys None i a h = tt
parent_in_front front x ys (Some p) i a h = elim (or_cases (list_any (λ y. is_same p y.stamp) front)
    (list_any (λ y. is_same p y.stamp) (x ∷ ys)) (sym (list_any-append (λ (y : Insertion). is_same p y.stamp) front (x ∷ ys)) ∙ h)) [
      | inl e ↦ e
      | inr e ↦ absurd (both_ways _ (not_from p x ys i a) e)
    ]

HasParent-permutation : (xs ys : List Insertion) (o : Option Stamp) → IsPermutation xs ys → HasParent xs o → HasParent ys o
HasParent-permutation xs ys None s h = tt
HasParent-permutation xs ys (Some p) s h = sym (list_any-IsPermutation (λ (y : Insertion). is_same p y.stamp) xs ys s) ∙ h

-- none of those below x is a child of x
childless_below : (front : List Insertion) (x : Insertion) → Each (λ y. is_before y.stamp x.stamp ≡ true) front → ParentsOlder front
    → Childless (Some x.stamp) front
childless_below [] x b o = tt
childless_below (y ∷ ys) x b o =
    (IsOlder-not_same y.parent x.stamp (IsOlder-trans y.parent y.stamp x.stamp o.0 b.0), childless_below ys x b.1 o.1)

-- the order of a rising list is a permutation of it, one element after another
preorder-goes_on : (front xs : List Insertion) → IsRising (front ++ xs) → ParentsOlder (front ++ xs)
    → Each (λ y. HasParent (front ++ xs) y.parent) xs
    → IsPermutation front (preorder front None) → IsPermutation (front ++ xs) (preorder (front ++ xs) None)
preorder-goes_on front [] r o c s = subst (λ l. IsPermutation l (preorder l None)) (sym (append-nil front)) s
preorder-goes_on front (x ∷ xs) r o c s =
    subst (λ l. IsPermutation l (preorder l None)) (append_assoc front (x ∷ []) xs)
    (preorder-goes_on (front ++ x ∷ []) xs
    (subst IsRising (sym (append_assoc front (x ∷ []) xs)) r)
    (subst ParentsOlder (sym (append_assoc front (x ∷ []) xs)) o)
    (subst (λ l. Each (λ y. HasParent l y.parent) xs) (sym (append_assoc front (x ∷ []) xs)) c.1)
    here)
  where
    below : Each (λ y. is_before y.stamp x.stamp ≡ true) front
    below = IsRising-below front x xs r

    older : IsOlder x.parent x.stamp
    older = (Each-back (λ y. IsOlder y.parent y.stamp) front (x ∷ xs) o).0

    fronts : ParentsOlder front
    fronts = Each-front (λ y. IsOlder y.parent y.stamp) front (x ∷ xs) o

    there : HasParent (preorder front None) x.parent
    there = HasParent-permutation front (preorder front None) x.parent s
        (parent_in_front front x xs x.parent older (IsRising-back front (x ∷ xs) r).0 c.0)

    walked : preorder (front ++ x ∷ []) None ≡ walk x.parent x (preorder front None)
    walked =
        ap (λ l. preorder l None) (sym (insert_rising-last x front below))
        ∙ preorder-insert_rising x.stamp x.parent x.ch front older (IsRising-front front (x ∷ xs) r) fronts
        (childless_below front x below fronts)

    here : IsPermutation (front ++ x ∷ []) (preorder (front ++ x ∷ []) None)
    here =
        subst (IsPermutation (front ++ x ∷ [])) (sym walked)
        (IsPermutation-trans (front ++ x ∷ []) (x ∷ front) (walk x.parent x (preorder front None))
        (IsPermutation-append_comm front (x ∷ []))
        (IsPermutation-trans (x ∷ front) (x ∷ preorder front None) (walk x.parent x (preorder front None))
        (IsPermutation-cons x front (preorder front None) s)
        (Between-permutation x (preorder front None) (walk x.parent x (preorder front None))
        (walk-between x.parent x (preorder front None) there))))

-- the order of a tree has its insertions, each exactly as often
pub preorder-permutation : (xs : List Insertion) → IsTree xs → IsPermutation xs (preorder (rising xs) None)
preorder-permutation xs t =
    IsPermutation-trans xs (rising xs) (preorder (rising xs) None) (rising-permutation xs)
    (preorder-goes_on [] (rising xs) t.rises t.older
    (Each-weaker (λ y. HasParent xs y.parent) (λ y. HasParent (rising xs) y.parent)
    (λ y h. HasParent-permutation xs (rising xs) y.parent (rising-permutation xs) h) (rising xs) t.closed)
    (IsPermutation-refl []))

-- how often a stamp stands in a list
abbrev times : Stamp → List Insertion → ℕ
times s xs = count_by (λ y. is_same s y.stamp) xs

abbrev counted : (b : Bool) → ℕ
counted b = cond b 1 0

counts_one : (b : Bool) → b ≡ true → counted b ≡ 1
counts_one b e = cond-true b 1 0 e

counts_none : (b : Bool) → b ≡ false → counted b ≡ 0
counts_none b e = cond-false b 1 0 e

times-cons : (s : Stamp) (x : Insertion) (xs : List Insertion) → times s (x ∷ xs) ≡ counted (is_same s x.stamp) + times s xs
times-cons s x xs = sum_by-cons (λ (y : Insertion). cond (is_same s y.stamp) 1 0) x xs

times-none : (s : Stamp) (xs : List Insertion) → Each (λ y. is_same s y.stamp ≡ false) xs → times s xs ≡ 0
times-none s [] h = refl
times-none s (x ∷ xs) h = omega (arith, times-cons s x xs, counts_none (is_same s x.stamp) h.0, times-none s xs h.1)

none-times : (s : Stamp) (xs : List Insertion) → times s xs ≤ 0 → Each (λ y. is_same s y.stamp ≡ false) xs
none-times s [] h = tt
none-times s (x ∷ xs) h = go (is_same s x.stamp) refl (none-times s xs)
  where
    go : (t : Bool) → is_same s x.stamp ≡ t → (times s xs ≤ 0 → Each (λ y. is_same s y.stamp ≡ false) xs)
        → (is_same s x.stamp ≡ false) × Each (λ y. is_same s y.stamp ≡ false) xs
    go true e ih = absurd (omega (arith, h, times-cons s x xs, counts_one (is_same s x.stamp) e))
    go false e ih = (e, ih (omega (arith, h, times-cons s x xs, counts_none (is_same s x.stamp) e)))

AreApart-times : (xs : List Insertion) → AreApart xs → (s : Stamp) → times s xs ≤ 1
AreApart-times [] a s = omega arith
AreApart-times (x ∷ xs) a s = go (is_same s x.stamp) refl (AreApart-times xs a.1 s)
  where
    go : (t : Bool) → is_same s x.stamp ≡ t → times s xs ≤ 1 → times s (x ∷ xs) ≤ 1
    go true e ih =
        let rest : times s xs ≡ 0 =
        times-none s xs (subst (λ r. Each (λ y. is_same r y.stamp ≡ false) xs) (sym (is_same-eq s x.stamp e)) a.0) in
        omega (arith, rest, times-cons s x xs, counts_one (is_same s x.stamp) e)
    go false e ih = omega (arith, ih, times-cons s x xs, counts_none (is_same s x.stamp) e)

times-AreApart : (xs : List Insertion) → ((s : Stamp) → times s xs ≤ 1) → AreApart xs
times-AreApart [] f = tt
times-AreApart (x ∷ xs) f = (
  none-times x.stamp xs (omega (arith, f x.stamp, times-cons x.stamp x xs, counts_one (is_same x.stamp x.stamp) (is_same-refl x.stamp))),
  times-AreApart xs (λ s. omega (arith, f s, times-cons s x xs)),
)

pub AreApart-permutation : (xs ys : List Insertion) → IsPermutation xs ys → AreApart xs → AreApart ys
AreApart-permutation xs ys p a = times-AreApart ys (λ s. subst (λ n. n ≤ 1)
    (sym (sum_by-IsPermutation (λ (y : Insertion). cond (is_same s y.stamp) 1 0) xs ys p)) (AreApart-times xs a s))
