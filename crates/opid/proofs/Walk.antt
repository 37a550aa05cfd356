-- The walk puts an element where the preorder has it.
use Rattle.std.proofs.Common.{◌≡◌, ℕ, Bool, true, false, cond, Option, Some, None, List, [], ◌∷◌, ◌++◌, refl, ap, ◌∙◌, sym, subst, inl, inr}
use Rattle.std.proofs.Common.{◌⊎◌}
use Rattle.std.proofs.lemmas.Bool.{cond-true, cond-false, both_ways, false_from_ne_true}
use Rattle.std.specs.Prelude.{filter}
use Rattle.std.specs.List.{AllByRecursion as Each}
use Rattle.opid.specs.declared.stamp.Stamp.{Stamp}
use Rattle.opid.specs.Stamps.{is_before, is_same, is_same_parent}
use Rattle.opid.specs.Operations.{Insertion}
use Rattle.opid.specs.Tree.{is_child_of, insert_rising, preorder}
use Rattle.opid.proofs.Order.{is_before-trans, is_before-not_same, is_same-eq, is_same_parent-eq, is_same_parent-refl, is_same_parent-sym}

-- x put in behind those with a greater stamp, before the first other or at the end
abbrev pub stand : Insertion → List Insertion → List Insertion
stand x [] = x ∷ []
stand x (y ∷ ys) = cond (is_before x.stamp y.stamp) (y ∷ stand x ys) (x ∷ y ∷ ys)

-- the same in what comes after the element with stamp p
abbrev pub stand_after : Stamp → Insertion → List Insertion → List Insertion
stand_after p x [] = []
stand_after p x (y ∷ ys) = cond (is_same p y.stamp) (y ∷ stand x ys) (y ∷ stand_after p x ys)

-- the walk
abbrev pub walk : Option Stamp → Insertion → List Insertion → List Insertion
walk None x xs = stand x xs
walk (Some p) x xs = stand_after p x xs

-- each has a stamp above s
abbrev pub Above : Stamp → List Insertion → Type 0
Above s xs = Each (λ y. is_before s y.stamp ≡ true) xs

-- none has the stamp s
abbrev pub Lacks : Stamp → List Insertion → Type 0
Lacks s xs = Each (λ y. is_same s y.stamp ≡ false) xs

-- none has the parent p
abbrev pub Childless : Option Stamp → List Insertion → Type 0
Childless p xs = Each (λ y. is_child_of p y ≡ false) xs

abbrev pub IsRising : List Insertion → Type 0
IsRising [] = Unit {0}
IsRising (x ∷ xs) = Above x.stamp xs × IsRising xs

-- the parent is the head or before the stamp
abbrev pub IsOlder : Option Stamp → Stamp → Type 0
IsOlder None s = Unit {0}
IsOlder (Some p) s = is_before p s ≡ true

abbrev pub ParentsOlder : List Insertion → Type 0
ParentsOlder xs = Each (λ y. IsOlder y.parent y.stamp) xs

pub Each-append : {X : Type 0} (P : X → Type 0) (xs ys : List X) → Each P xs → Each P ys → Each P (xs ++ ys)
Each-append P [] ys h k = k
Each-append P (x ∷ xs) ys h k = (h.0, Each-append P xs ys h.1 k)

pub Each-weaker : {X : Type 0} (P Q : X → Type 0) (f : (x : X) → P x → Q x) (xs : List X) → Each P xs → Each Q xs
Each-weaker P Q f [] h = tt
Each-weaker P Q f (x ∷ xs) h = (f x h.0, Each-weaker P Q f xs h.1)

pub Each-filter : {X : Type 0} (P : X → Type 0) (t : X → Bool) (xs : List X) → Each P xs → Each P (filter t xs)
Each-filter P t [] h = tt
Each-filter P t (x ∷ xs) h = go (t x) (Each-filter P t xs h.1)
  where
    go : (b : Bool) → Each P (filter t xs) → Each P (cond b (x ∷ filter t xs) (filter t xs))
    go true ih = (h.0, ih)
    go false ih = ih

-- what holds of each holds of each in the order
pub Each-preorder : (P : Insertion → Type 0) (xs : List Insertion) (p : Option Stamp) → Each P xs → Each P (preorder xs p)
Each-preorder P [] p h = tt
Each-preorder P (x ∷ xs) p h =
    Each-append P (preorder xs p) _ (Each-preorder P xs p h.1) (below (is_child_of p x) (Each-preorder P xs (Some x.stamp) h.1))
  where
    below : (b : Bool) → Each P (preorder xs (Some x.stamp)) → Each P (cond b (x ∷ preorder xs (Some x.stamp)) [])
    below true ih = (h.0, ih)
    below false ih = tt

pub preorder-childless : (xs : List Insertion) (p : Option Stamp) → Childless p xs → preorder xs p ≡ []
preorder-childless [] p h = refl
preorder-childless (x ∷ xs) p h =
    ap (λ r. r ++ cond (is_child_of p x) (x ∷ preorder xs (Some x.stamp)) []) (preorder-childless xs p h.1)
    ∙ cond-false (is_child_of p x) _ _ h.0

pub stand-past : (x : Insertion) (ls bs : List Insertion) → Above x.stamp ls → stand x (ls ++ bs) ≡ ls ++ stand x bs
stand-past x [] bs h = refl
stand-past x (a ∷ ls) bs h = cond-true _ _ _ h.0 ∙ ap (λ r. a ∷ r) (stand-past x ls bs h.1)

pub stand-stop : (x b : Insertion) (ls bs : List Insertion) → is_before x.stamp b.stamp ≡ false
    → stand x (ls ++ b ∷ bs) ≡ stand x ls ++ b ∷ bs
stand-stop x b [] bs h = cond-false _ _ _ h
stand-stop x b (a ∷ ls) bs h = go (stand-stop x b ls bs h) (is_before x.stamp a.stamp)
  where
    go : stand x (ls ++ b ∷ bs) ≡ stand x ls ++ b ∷ bs → (t : Bool)
        → cond t (a ∷ stand x (ls ++ b ∷ bs)) (x ∷ a ∷ (ls ++ b ∷ bs)) ≡ cond t (a ∷ stand x ls) (x ∷ a ∷ ls) ++ b ∷ bs
    go ih true = ap (λ r. a ∷ r) ih
    go ih false = refl

pub stand_after-lacks : (p : Stamp) (x : Insertion) (ls bs : List Insertion) → Lacks p ls
    → stand_after p x (ls ++ bs) ≡ ls ++ stand_after p x bs
stand_after-lacks p x [] bs h = refl
stand_after-lacks p x (a ∷ ls) bs h = cond-false _ _ _ h.0 ∙ ap (λ r. a ∷ r) (stand_after-lacks p x ls bs h.1)

pub stand_after-none : (p : Stamp) (x : Insertion) (ls : List Insertion) → Lacks p ls → stand_after p x ls ≡ ls
stand_after-none p x [] h = refl
stand_after-none p x (a ∷ ls) h = cond-false _ _ _ h.0 ∙ ap (λ r. a ∷ r) (stand_after-none p x ls h.1)

pub stand_after-stop : (p : Stamp) (x b : Insertion) (ls bs : List Insertion) → is_before x.stamp b.stamp ≡ false → Lacks p (b ∷ bs)
    → stand_after p x (ls ++ b ∷ bs) ≡ stand_after p x ls ++ b ∷ bs
stand_after-stop p x b [] bs h k = stand_after-none p x (b ∷ bs) k
stand_after-stop p x b (a ∷ ls) bs h k = go (stand_after-stop p x b ls bs h k) (is_same p a.stamp)
  where
    go : stand_after p x (ls ++ b ∷ bs) ≡ stand_after p x ls ++ b ∷ bs → (t : Bool)
        → cond t (a ∷ stand x (ls ++ b ∷ bs)) (a ∷ stand_after p x (ls ++ b ∷ bs))
        ≡ cond t (a ∷ stand x ls) (a ∷ stand_after p x ls) ++ b ∷ bs
    go ih true = ap (λ r. a ∷ r) (stand-stop x b ls bs h)
    go ih false = ap (λ r. a ∷ r) ih

-- p is none of the elements
abbrev pub IsOutside : Option Stamp → List Insertion → Type 0
IsOutside p xs = Each (λ y. is_same_parent p (Some y.stamp) ≡ false) xs

pub append-nil : {X : Type 0} (xs : List X) → xs ++ [] ≡ xs
append-nil [] = refl
append-nil (x ∷ xs) = ap (λ r. x ∷ r) (append-nil xs)

-- an element that hangs below none of these changes nothing at another parent
pub preorder-insert_other : (x : Insertion) (xs : List Insertion) (p : Option Stamp) → is_child_of p x ≡ false → IsOutside x.parent xs
    → preorder (insert_rising x xs) p ≡ preorder xs p
preorder-insert_other x [] p h k = cond-false _ _ _ h
preorder-insert_other x (y ∷ ys) p h k =
    go (preorder-insert_other x ys p h k.1) (preorder-insert_other x ys (Some y.stamp) k.0 k.1) (is_before x.stamp y.stamp)
  where
    go : preorder (insert_rising x ys) p ≡ preorder ys p → preorder (insert_rising x ys) (Some y.stamp) ≡ preorder ys (Some y.stamp)
        → (t : Bool) → preorder (cond t (x ∷ y ∷ ys) (y ∷ insert_rising x ys)) p ≡ preorder (y ∷ ys) p
    go here below true = ap (λ r. preorder (y ∷ ys) p ++ r) (cond-false _ _ _ h) ∙ append-nil (preorder (y ∷ ys) p)
    go here below false =
        ap (λ r. r ++ cond (is_child_of p y) (y ∷ preorder (insert_rising x ys) (Some y.stamp)) []) here
        ∙ ap (λ r. preorder ys p ++ cond (is_child_of p y) (y ∷ r) []) below

pub Above-trans : (s : Stamp) (y : Insertion) (ys : List Insertion) → is_before s y.stamp ≡ true → Above y.stamp ys → Above s ys
Above-trans s y ys h k = Each-weaker (λ z. is_before y.stamp z.stamp ≡ true) (λ z. is_before s z.stamp ≡ true)
    (λ z l. is_before-trans s y.stamp z.stamp h l) ys k

pub IsOlder-not_same : (p : Option Stamp) (s : Stamp) → IsOlder p s → is_same_parent p (Some s) ≡ false
IsOlder-not_same None s h = refl
IsOlder-not_same (Some p) s h = is_before-not_same p s h

pub IsOlder-trans : (p : Option Stamp) (s t : Stamp) → IsOlder p s → is_before s t ≡ true → IsOlder p t
IsOlder-trans None s t h k = tt
IsOlder-trans (Some p) s t h k = is_before-trans p s t h k

-- what is older than y is none of those after y
pub IsOutside-older : (p : Option Stamp) (y : Insertion) (ys : List Insertion) → IsOlder p y.stamp → Above y.stamp ys → IsOutside p ys
IsOutside-older p y ys h k = Each-weaker (λ z. is_before y.stamp z.stamp ≡ true) (λ z. is_same_parent p (Some z.stamp) ≡ false)
    (λ z l. IsOlder-not_same p z.stamp (IsOlder-trans p y.stamp z.stamp h l)) ys k

-- y itself is none of those after y
pub IsOutside-self : (y : Insertion) (ys : List Insertion) → Above y.stamp ys → IsOutside (Some y.stamp) ys
IsOutside-self y ys k = Each-weaker (λ z. is_before y.stamp z.stamp ≡ true) (λ z. is_same y.stamp z.stamp ≡ false)
    (λ z l. is_before-not_same y.stamp z.stamp l) ys k

-- among the children of its parent and all below them, the element stands by its stamp
pub preorder-insert_child : (x : Insertion) (xs : List Insertion) → IsRising xs → ParentsOlder xs → Childless (Some x.stamp) xs
    → preorder (insert_rising x xs) x.parent ≡ stand x (preorder xs x.parent)
preorder-insert_child x [] r o c = cond-true _ _ _ (is_same_parent-refl x.parent)
preorder-insert_child x (y ∷ ys) r o c = go (preorder-insert_child x ys r.1 o.1 c.1) (is_before x.stamp y.stamp) refl
  where
    above : is_before x.stamp y.stamp ≡ true → Above x.stamp (preorder (y ∷ ys) x.parent)
    above e = Each-preorder (λ z. is_before x.stamp z.stamp ≡ true) (y ∷ ys) x.parent (e, Above-trans x.stamp y ys e r.0)

    others : is_child_of x.parent y ≡ true → preorder (insert_rising x ys) (Some y.stamp) ≡ preorder ys (Some y.stamp)
    others e =
        let same : y.parent ≡ x.parent = is_same_parent-eq y.parent x.parent e in
        let older : IsOlder x.parent y.stamp = subst (λ p. IsOlder p y.stamp) same o.0 in
        preorder-insert_other x ys (Some y.stamp) (IsOlder-not_same x.parent y.stamp older) (IsOutside-older x.parent y ys older r.0)

    tail : is_before x.stamp y.stamp ≡ false → (u : Bool) → is_child_of x.parent y ≡ u
        → stand x (preorder ys x.parent) ++ cond u (y ∷ preorder (insert_rising x ys) (Some y.stamp)) []
        ≡ stand x (preorder ys x.parent ++ cond u (y ∷ preorder ys (Some y.stamp)) [])
    tail e true f = ap (λ z. stand x (preorder ys x.parent) ++ y ∷ z) (others f)
        ∙ sym (stand-stop x y (preorder ys x.parent) (preorder ys (Some y.stamp)) e)
    tail e false f = append-nil (stand x (preorder ys x.parent)) ∙ ap (stand x) (sym (append-nil (preorder ys x.parent)))

    go : preorder (insert_rising x ys) x.parent ≡ stand x (preorder ys x.parent) → (t : Bool) → is_before x.stamp y.stamp ≡ t
        → preorder (cond t (x ∷ y ∷ ys) (y ∷ insert_rising x ys)) x.parent ≡ stand x (preorder (y ∷ ys) x.parent)
    go ih true e =
        ap (λ z. preorder (y ∷ ys) x.parent ++ z) (cond-true _ _ _ (is_same_parent-refl x.parent)
        ∙ ap (λ z. x ∷ z) (preorder-childless (y ∷ ys) (Some x.stamp) c))
        ∙ sym (stand-past x (preorder (y ∷ ys) x.parent) [] (above e))
        ∙ ap (stand x) (append-nil (preorder (y ∷ ys) x.parent))
    go ih false e =
        ap (λ z. z ++ cond (is_child_of x.parent y) (y ∷ preorder (insert_rising x ys) (Some y.stamp)) []) ih
        ∙ tail e (is_child_of x.parent y) refl

pub Lacks-append : (s : Stamp) (xs ys : List Insertion) → Lacks s xs → Lacks s ys → Lacks s (xs ++ ys)
Lacks-append s = Each-append (λ y. is_same s y.stamp ≡ false)

pub Lacks-preorder : (s : Stamp) (xs : List Insertion) (p : Option Stamp) → Lacks s xs → Lacks s (preorder xs p)
Lacks-preorder s = Each-preorder (λ y. is_same s y.stamp ≡ false)

-- what is before an element is none of those after it
pub Lacks-above : (s t : Stamp) (ys : List Insertion) → is_before s t ≡ true → Above t ys → Lacks s ys
Lacks-above s t ys h k = Each-weaker (λ z. is_before t z.stamp ≡ true) (λ z. is_same s z.stamp ≡ false)
    (λ z l. is_before-not_same s z.stamp (is_before-trans s t z.stamp h l)) ys k

pub Lacks-self : (s : Stamp) (ys : List Insertion) → Above s ys → Lacks s ys
Lacks-self s ys k = Each-weaker (λ z. is_before s z.stamp ≡ true) (λ z. is_same s z.stamp ≡ false)
    (λ z l. is_before-not_same s z.stamp l) ys k

-- one element hangs at one parent at most
pub one_parent : (p q : Option Stamp) (z : Insertion) → is_same_parent p q ≡ false → is_child_of p z ≡ true → is_child_of q z ≡ false
one_parent p q z h k = false_from_ne_true (is_child_of q z) (λ l.
    let e : p ≡ q = sym (is_same_parent-eq z.parent p k) ∙ is_same_parent-eq z.parent q l in
    both_ways (is_same_parent p q) h (subst (λ r. is_same_parent p r ≡ true) e (is_same_parent-refl p)))

-- below two parents that are none of the elements, no element stands twice
pub apart : (s : Stamp) (xs : List Insertion) (p q : Option Stamp) → IsRising xs → is_same_parent p q ≡ false → IsOutside p xs
    → IsOutside q xs → Lacks s (preorder xs p) ⊎ Lacks s (preorder xs q)
apart s [] p q r h k l = inl tt
apart s (z ∷ zs) p q r h k l =
    go (apart s zs p q r.1 h k.1 l.1)
    (apart s zs (Some z.stamp) q r.1 (is_same_parent-sym (Some z.stamp) q ∙ l.0) (IsOutside-self z zs r.0) l.1)
    (apart s zs p (Some z.stamp) r.1 k.0 k.1 (IsOutside-self z zs r.0))
    (is_same s z.stamp) refl (is_child_of p z) refl (is_child_of q z) refl
  where
    -- the element is z itself
    lone : is_same s z.stamp ≡ true → (o : Option Stamp) → Lacks s (preorder zs o)
    lone e o = Lacks-preorder s zs o (Lacks-self s zs (subst (λ v. Above v zs) (sym (is_same-eq s z.stamp e)) r.0))

    go : Lacks s (preorder zs p) ⊎ Lacks s (preorder zs q) → Lacks s (preorder zs (Some z.stamp)) ⊎ Lacks s (preorder zs q)
        → Lacks s (preorder zs p) ⊎ Lacks s (preorder zs (Some z.stamp))
        → (t : Bool) → is_same s z.stamp ≡ t → (u : Bool) → is_child_of p z ≡ u → (v : Bool) → is_child_of q z ≡ v
        → Lacks s (preorder zs p ++ cond u (z ∷ preorder zs (Some z.stamp)) [])
        ⊎ Lacks s (preorder zs q ++ cond v (z ∷ preorder zs (Some z.stamp)) [])
    go i j m t e true f true g = absurd (both_ways (is_child_of q z) (one_parent p q z h f) g)
    go i j m true e u f false g = inr (Lacks-append s (preorder zs q) [] (lone e q) tt)
    go i j m true e false f true g = inl (Lacks-append s (preorder zs p) [] (lone e p) tt)
    go i j m false e false f false g =
        elim i [ inl a ↦ inl (Lacks-append s (preorder zs p) [] a tt) | inr b ↦ inr (Lacks-append s (preorder zs q) [] b tt) ]
    go i j m false e true f false g = elim i [
      | inl a ↦ elim j [
        | inl c ↦ inl (Lacks-append s (preorder zs p) (z ∷ preorder zs (Some z.stamp)) a (e, c))
        | inr b ↦ inr
            (Lacks-append s (preorder zs q) [] b tt)
      ]
      | inr b ↦ inr (Lacks-append s (preorder zs q) [] b tt)
    ]
    go i j m false e false f true g = elim i [
      | inl a ↦ inl (Lacks-append s (preorder zs p) [] a tt)
      | inr b ↦ elim m [
        | inl a ↦ inl (Lacks-append s (preorder zs p) [] a tt)
        | inr c ↦ inr
            (Lacks-append s (preorder zs q) (z ∷ preorder zs (Some z.stamp)) b (e, c))
      ]
    ]

abbrev pub child_at : Stamp → Stamp → ℕ → Insertion
child_at s q c = record { stamp = s; parent = Some q; ch = c }

-- Below another parent, the element stands where the walk puts it, if its parent stands there.
pub preorder-insert_below : (s q : Stamp) (c : ℕ) (xs : List Insertion) (p : Option Stamp) → is_same_parent (Some q) p ≡ false
    → IsOutside p xs → is_before q s ≡ true → IsRising xs → ParentsOlder xs → Childless (Some s) xs
    → preorder (insert_rising (child_at s q c) xs) p ≡ stand_after q (child_at s q c) (preorder xs p)
preorder-insert_below s q c [] p h k l r o n = cond-false _ _ _ h
preorder-insert_below s q c (y ∷ ys) p h k l r o n =
    go (preorder-insert_below s q c ys p h k.1 l r.1 o.1 n.1)
    (λ v. preorder-insert_below s q c ys (Some y.stamp) v (IsOutside-self y ys r.0) l r.1 o.1 n.1)
    (is_before s y.stamp) refl
  where
    -- y is the parent
    at_parent : is_before s y.stamp ≡ false → is_same q y.stamp ≡ true
        → stand_after q (child_at s q c) (preorder ys p) ++ y ∷ preorder (insert_rising (child_at s q c) ys) (Some y.stamp)
        ≡ stand_after q (child_at s q c) (preorder ys p ++ y ∷ preorder ys (Some y.stamp))
    at_parent e f =
        let same : q ≡ y.stamp = is_same-eq q y.stamp f in
        let lacks : Lacks q (preorder ys p) = Lacks-preorder q ys p (Lacks-self q ys (subst (λ v. Above v ys) (sym same) r.0)) in
        let child : preorder (insert_rising (child_at s q c) ys) (Some y.stamp) ≡ stand (child_at s q c) (preorder ys (Some y.stamp)) =
        subst (λ v. preorder (insert_rising (child_at s q c) ys) (Some v) ≡ stand (child_at s q c) (preorder ys (Some v))) same
        (preorder-insert_child (child_at s q c) ys r.1 o.1 n.1) in
        ap (λ v. v ++ y ∷ preorder (insert_rising (child_at s q c) ys) (Some y.stamp))
        (stand_after-none q (child_at s q c) (preorder ys p) lacks)
        ∙ ap (λ v. preorder ys p ++ y ∷ v) child
        ∙ sym (stand_after-lacks q (child_at s q c) (preorder ys p) (y ∷ preorder ys (Some y.stamp)) lacks
        ∙ ap (λ v. preorder ys p ++ v) (cond-true _ _ _ f))

    -- the parent is another one
    elsewhere : is_before s y.stamp ≡ false → is_same q y.stamp ≡ false → Lacks q (preorder ys p) ⊎ Lacks q (preorder ys (Some y.stamp))
        → stand_after q (child_at s q c) (preorder ys p) ++ y ∷ stand_after q (child_at s q c) (preorder ys (Some y.stamp))
        ≡ stand_after q (child_at s q c) (preorder ys p ++ y ∷ preorder ys (Some y.stamp))
    elsewhere e f (inl a) =
        ap (λ v. v ++ y ∷ stand_after q (child_at s q c) (preorder ys (Some y.stamp)))
        (stand_after-none q (child_at s q c) (preorder ys p) a)
        ∙ sym (stand_after-lacks q (child_at s q c) (preorder ys p) (y ∷ preorder ys (Some y.stamp)) a
        ∙ ap (λ v. preorder ys p ++ v) (cond-false _ _ _ f))
    elsewhere e f (inr b) =
        ap (λ v. stand_after q (child_at s q c) (preorder ys p) ++ y ∷ v)
        (stand_after-none q (child_at s q c) (preorder ys (Some y.stamp)) b)
        ∙ sym (stand_after-stop q (child_at s q c) y (preorder ys p) (preorder ys (Some y.stamp)) e (f, b))

    inner : is_before s y.stamp ≡ false → (u : Bool) → is_child_of p y ≡ u → (w : Bool) → is_same q y.stamp ≡ w
        → (is_same q y.stamp ≡ false → preorder (insert_rising (child_at s q c) ys) (Some y.stamp)
        ≡ stand_after q (child_at s q c) (preorder ys (Some y.stamp)))
        → stand_after q (child_at s q c) (preorder ys p) ++ cond u (y ∷ preorder (insert_rising (child_at s q c) ys) (Some y.stamp)) []
        ≡ stand_after q (child_at s q c) (preorder ys p ++ cond u (y ∷ preorder ys (Some y.stamp)) [])
    inner e false f w g ih = append-nil _ ∙ ap (stand_after q (child_at s q c)) (sym (append-nil (preorder ys p)))
    inner e true f true g ih = at_parent e g
    inner e true f false g ih =
        ap (λ v. stand_after q (child_at s q c) (preorder ys p) ++ y ∷ v) (ih g)
        ∙ elsewhere e g (apart q ys p (Some y.stamp) r.1 k.0 k.1 (IsOutside-self y ys r.0))

    go : preorder (insert_rising (child_at s q c) ys) p ≡ stand_after q (child_at s q c) (preorder ys p)
        → (is_same q y.stamp ≡ false → preorder (insert_rising (child_at s q c) ys) (Some y.stamp)
        ≡ stand_after q (child_at s q c) (preorder ys (Some y.stamp)))
        → (t : Bool) → is_before s y.stamp ≡ t
        → preorder (cond t (child_at s q c ∷ y ∷ ys) (y ∷ insert_rising (child_at s q c) ys)) p
        ≡ stand_after q (child_at s q c) (preorder (y ∷ ys) p)
    go here below true e =
        ap (λ v. preorder (y ∷ ys) p ++ v) (cond-false _ _ _ h) ∙ append-nil (preorder (y ∷ ys) p)
        ∙ sym (stand_after-none q (child_at s q c) (preorder (y ∷ ys) p)
        (Lacks-preorder q (y ∷ ys) p (
          is_before-not_same q y.stamp (is_before-trans q s y.stamp l e),
          Lacks-above q y.stamp ys (is_before-trans q s y.stamp l e) r.0,
        )))
    go here below false e =
        ap (λ v. v ++ cond (is_child_of p y) (y ∷ preorder (insert_rising (child_at s q c) ys) (Some y.stamp)) []) here
        ∙ inner e (is_child_of p y) refl (is_same q y.stamp) refl below

pub Outside-head : (xs : List Insertion) → IsOutside None xs
Outside-head [] = tt
Outside-head (x ∷ xs) = (refl, Outside-head xs)

-- The heart: the walk puts an element where the preorder has it.
pub preorder-insert_rising : (s : Stamp) (o : Option Stamp) (c : ℕ) (xs : List Insertion) → IsOlder o s → IsRising xs → ParentsOlder xs
    → Childless (Some s) xs
    → preorder (insert_rising (record { stamp = s; parent = o; ch = c }) xs) None
    ≡ walk o (record { stamp = s; parent = o; ch = c }) (preorder xs None)
preorder-insert_rising s None c xs h r o n = preorder-insert_child (record { stamp = s; parent = None; ch = c }) xs r o n
preorder-insert_rising s (Some q) c xs h r o n = preorder-insert_below s q c xs None refl (Outside-head xs) h r o n
