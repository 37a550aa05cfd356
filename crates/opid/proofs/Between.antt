-- One element put in between two parts of a list: what the walk does, wherever it stops.
use Rattle.std.proofs.Common.{◌≡◌, Bool, true, false, cond, ◌||◌, Option, Some, None, List, [], ◌∷◌, ◌++◌, refl, ap, ◌∙◌, sym, subst}
use Rattle.std.specs.Prelude.{filter}
use Rattle.std.specs.List.{list_any}
use Rattle.std.specs.List.Sorted.{IsPermutation}
use Rattle.std.proofs.lemmas.Bool.{cond-true}
use Rattle.std.proofs.lemmas.List.Elements.{filter-append}
use Rattle.std.proofs.lemmas.List.Sorted.{IsPermutation-middle, IsPermutation-sym}
use Rattle.opid.specs.declared.stamp.Stamp.{Stamp}
use Rattle.opid.specs.Stamps.{is_before, is_same}
use Rattle.opid.specs.Operations.{Insertion}
use Rattle.opid.specs.Tree.{insert_rising}
use Rattle.opid.proofs.Walk.{stand, stand_after, walk}
use Rattle.opid.proofs.Rising.{HasParent}

-- the list is two parts, between which x is put
abbrev pub Between : Insertion → List Insertion → List Insertion → Type 0
Between x xs new = (front back : List Insertion) × (xs ≡ front ++ back) × (new ≡ front ++ x ∷ back)

Between-cons : (x y : Insertion) (xs new : List Insertion) → Between x xs new → Between x (y ∷ xs) (y ∷ new)
Between-cons x y xs new (f, b, p, q) = (y ∷ f, b, ap (λ r. y ∷ r) p, ap (λ r. y ∷ r) q)

stand-between : (x : Insertion) (xs : List Insertion) → Between x xs (stand x xs)
stand-between x [] = ([], [], refl, refl)
stand-between x (y ∷ ys) = go (is_before x.stamp y.stamp) (stand-between x ys)
  where
    go : (t : Bool) → Between x ys (stand x ys) → Between x (y ∷ ys) (cond t (y ∷ stand x ys) (x ∷ y ∷ ys))
    go true ih = Between-cons x y ys (stand x ys) ih
    go false ih = ([], y ∷ ys, refl, refl)

stand_after-between : (p : Stamp) (x : Insertion) (xs : List Insertion) → list_any (λ y. is_same p y.stamp) xs ≡ true
    → Between x xs (stand_after p x xs)
stand_after-between p x [] h = cc
stand_after-between p x (y ∷ ys) h = go (is_same p y.stamp) refl (stand_after-between p x ys)
  where
    go : (t : Bool) → is_same p y.stamp ≡ t → (list_any (λ z. is_same p z.stamp) ys ≡ true → Between x ys (stand_after p x ys))
        → Between x (y ∷ ys) (cond t (y ∷ stand x ys) (y ∷ stand_after p x ys))
    go true e ih = Between-cons x y ys (stand x ys) (stand-between x ys)
    go false e ih = Between-cons x y ys (stand_after p x ys) (ih (subst (λ b. (b || list_any (λ z. is_same p z.stamp) ys) ≡ true) e h))

-- the walk puts the element in, if its parent is there
pub walk-between : (o : Option Stamp) (x : Insertion) (xs : List Insertion) → HasParent xs o → Between x xs (walk o x xs)
walk-between None x xs h = stand-between x xs
walk-between (Some p) x xs h = stand_after-between p x xs h

pub insert_rising-between : (x : Insertion) (xs : List Insertion) → Between x xs (insert_rising x xs)
insert_rising-between x [] = ([], [], refl, refl)
insert_rising-between x (y ∷ ys) = go (is_before x.stamp y.stamp) (insert_rising-between x ys)
  where
    go : (t : Bool) → Between x ys (insert_rising x ys) → Between x (y ∷ ys) (cond t (x ∷ y ∷ ys) (y ∷ insert_rising x ys))
    go true ih = ([], y ∷ ys, refl, refl)
    go false ih = Between-cons x y ys (insert_rising x ys) ih

pub Between-permutation : (x : Insertion) (xs new : List Insertion) → Between x xs new → IsPermutation (x ∷ xs) new
Between-permutation x xs new (f, b, p, q) =
    subst (λ r. IsPermutation (x ∷ r) new) (sym p)
    (subst (λ r. IsPermutation (x ∷ (f ++ b)) r) (sym q) (IsPermutation-sym (f ++ x ∷ b) (x ∷ (f ++ b)) (IsPermutation-middle f x b)))

-- a filter that keeps x
pub Between-filter : (t : Insertion → Bool) (x : Insertion) (xs new : List Insertion) → t x ≡ true → Between x xs new
    → Between x (filter t xs) (filter t new)
Between-filter t x xs new k (f, b, p, q) = (
  filter t f,
  filter t b,
  ap (filter t) p ∙ filter-append t f b,
  ap (filter t) q ∙ filter-append t f (x ∷ b)
      ∙ ap (λ r. filter t f ++ r) (cond-true _ _ _ k),
)
