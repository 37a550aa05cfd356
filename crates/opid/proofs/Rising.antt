-- Insertions by rising stamp, and when they make a tree.
use Rattle.std.proofs.Common.{◌≡◌, Bool, true, false, cond, Option, Some, None, List, [], ◌∷◌, ◌++◌, refl, ap, ◌∙◌, sym, subst}
use Rattle.std.proofs.lemmas.Bool.{cond-true, cond-false, both_ways, false_from_ne_true, or_parts}
use Rattle.std.specs.List.{AllByRecursion as Each, list_any}
use Rattle.opid.specs.declared.stamp.Stamp.{Stamp}
use Rattle.opid.specs.Stamps.{is_before, is_same, is_same_parent}
use Rattle.opid.specs.Operations.{Insertion}
use Rattle.opid.specs.Tree.{is_child_of, insert_rising, rising}
use Rattle.opid.proofs.Order.{is_before-trans, is_before-asym, is_before-total, is_same-eq, is_same-sym}
use Rattle.opid.proofs.Walk.{Lacks, Childless, IsRising, ParentsOlder, Each-weaker, Above-trans}

pub Each-none : {X : Type 0} (t : X → Bool) (xs : List X) → list_any t xs ≡ false → Each (λ x. t x ≡ false) xs
Each-none t [] h = tt
Each-none t (x ∷ xs) h = let parts = or_parts (t x) (list_any t xs) h in (parts.0, Each-none t xs parts.1)

pub Each-insert_rising : (P : Insertion → Type 0) (x : Insertion) (xs : List Insertion) → P x → Each P xs → Each P (insert_rising x xs)
Each-insert_rising P x [] h k = (h, tt)
Each-insert_rising P x (y ∷ ys) h k = go (is_before x.stamp y.stamp) (Each-insert_rising P x ys h k.1)
  where
    go : (t : Bool) → Each P (insert_rising x ys) → Each P (cond t (x ∷ y ∷ ys) (y ∷ insert_rising x ys))
    go true ih = (h, k)
    go false ih = (k.0, ih)

pub Each-rising : (P : Insertion → Type 0) (xs : List Insertion) → Each P xs → Each P (rising xs)
Each-rising P [] h = tt
Each-rising P (x ∷ xs) h = Each-insert_rising P x (rising xs) h.0 (Each-rising P xs h.1)

pub IsRising-insert_rising : (x : Insertion) (xs : List Insertion) → Lacks x.stamp xs → IsRising xs → IsRising (insert_rising x xs)
IsRising-insert_rising x [] l r = (tt, tt)
IsRising-insert_rising x (y ∷ ys) l r = go (is_before x.stamp y.stamp) refl (IsRising-insert_rising x ys l.1 r.1)
  where
    go : (t : Bool) → is_before x.stamp y.stamp ≡ t → IsRising (insert_rising x ys)
        → IsRising (cond t (x ∷ y ∷ ys) (y ∷ insert_rising x ys))
    go true e ih = ((e, Above-trans x.stamp y ys e r.0), r)
    go false e ih = (Each-insert_rising (λ z. is_before y.stamp z.stamp ≡ true) x ys (is_before-total x.stamp y.stamp e l.0) r.0, ih)

-- it doesn't matter which of two is put in first
pub insert_rising-swap : (a b : Insertion) (xs : List Insertion) → is_same a.stamp b.stamp ≡ false
    → insert_rising a (insert_rising b xs) ≡ insert_rising b (insert_rising a xs)
insert_rising-swap a b [] h = go (is_before a.stamp b.stamp) refl (is_before b.stamp a.stamp) refl
  where
    go : (t : Bool) → is_before a.stamp b.stamp ≡ t → (u : Bool) → is_before b.stamp a.stamp ≡ u
        → cond t (a ∷ b ∷ []) (b ∷ a ∷ []) ≡ cond u (b ∷ a ∷ []) (a ∷ b ∷ [])
    go true e true f = absurd (both_ways _ (is_before-asym a.stamp b.stamp e) f)
    go true e false f = refl
    go false e true f = refl
    go false e false f = absurd (both_ways _ f (is_before-total a.stamp b.stamp e h))
insert_rising-swap a b (y ∷ ys) h =
    go (is_before a.stamp y.stamp) refl (is_before b.stamp y.stamp) refl (is_before a.stamp b.stamp) refl (is_before b.stamp a.stamp) refl
    (insert_rising-swap a b ys h)
  where
    go : (p : Bool) → is_before a.stamp y.stamp ≡ p → (q : Bool) → is_before b.stamp y.stamp ≡ q → (t : Bool)
        → is_before a.stamp b.stamp ≡ t → (u : Bool) → is_before b.stamp a.stamp ≡ u
        → insert_rising a (insert_rising b ys) ≡ insert_rising b (insert_rising a ys)
        → insert_rising a (cond q (b ∷ y ∷ ys) (y ∷ insert_rising b ys)) ≡ insert_rising b (cond p (a ∷ y ∷ ys) (y ∷ insert_rising a ys))
    go true e true f true g u v ih =
        cond-true _ _ _ g ∙ ap (λ r. a ∷ r) (sym (cond-true _ _ _ f)) ∙ sym (cond-false _ _ _ (is_before-asym a.stamp b.stamp g))
    go true e true f false g u v ih =
        cond-false _ _ _ g ∙ ap (λ r. b ∷ r) (cond-true _ _ _ e) ∙ sym (cond-true _ _ _ (is_before-total a.stamp b.stamp g h))
    go true e false f t g true v ih = absurd (both_ways _ f (is_before-trans b.stamp a.stamp y.stamp v e))
    go true e false f t g false v ih = cond-true _ _ _ e ∙ ap (λ r. a ∷ r) (sym (cond-false _ _ _ f)) ∙ sym (cond-false _ _ _ v)
    go false e true f true g u v ih = absurd (both_ways _ e (is_before-trans a.stamp b.stamp y.stamp g f))
    go false e true f false g u v ih = cond-false _ _ _ g ∙ ap (λ r. b ∷ r) (cond-false _ _ _ e) ∙ sym (cond-true _ _ _ f)
    go false e false f t g u v ih = cond-false _ _ _ e ∙ ap (λ r. y ∷ r) ih ∙ sym (cond-false _ _ _ f)

pub rising-push : (xs : List Insertion) (x : Insertion) → Lacks x.stamp xs → rising (xs ++ x ∷ []) ≡ insert_rising x (rising xs)
rising-push [] x l = refl
rising-push (y ∷ ys) x l =
    ap (insert_rising y) (rising-push ys x l.1)
    ∙ insert_rising-swap y x (rising ys) (is_same-sym y.stamp x.stamp ∙ l.0)

-- the parent is the head or one of these
abbrev pub HasParent : List Insertion → Option Stamp → Type 0
HasParent xs None = Unit {0}
HasParent xs (Some p) = list_any (λ x. is_same p x.stamp) xs ≡ true

-- insertions in order of arrival, which make a tree
pub record IsTree (xs : List Insertion) : Type 0 where
  pub rises : IsRising (rising xs)
  pub older : ParentsOlder (rising xs)
  pub closed : Each (λ y. HasParent xs y.parent) (rising xs)

pub Childless-new : (s : Stamp) (xs : List Insertion) → IsTree xs → list_any (λ x. is_same s x.stamp) xs ≡ false
    → Childless (Some s) (rising xs)
Childless-new s xs t n = Each-weaker (λ y. HasParent xs y.parent) (λ y. is_child_of (Some s) y ≡ false) (λ y h. go y.parent h)
    (rising xs) t.closed
  where
    go : (o : Option Stamp) → HasParent xs o → is_same_parent o (Some s) ≡ false
    go None h = refl
    go (Some p) h = false_from_ne_true (is_same p s) (λ e.
        both_ways _ n (subst (λ r. list_any (λ x. is_same r x.stamp) xs ≡ true) (is_same-eq p s e) h))
