-- The order is the one that the tree's equation states.
use Rattle.std.proofs.Common.{None, ◌≡◌, Bool, true, false, cond, Option, Some, List, [], ◌∷◌, ◌++◌, reverse, refl, ap, ◌∙◌, sym, subst}
use Rattle.std.proofs.Common.{append_assoc}
use mathlib.Core.Path.{ap₂}
use Rattle.std.specs.Prelude.{filter}
use Rattle.std.proofs.lemmas.Bool.{cond-false, both_ways}
use Rattle.std.proofs.lemmas.List.{reverse-append}
use Rattle.std.proofs.lemmas.List.Concat.{flat_map-append}
use Rattle.std.specs.List.{AllByRecursion as Each, flat_map}
use Rattle.opid.specs.declared.stamp.Stamp.{Stamp}
use Rattle.opid.specs.Stamps.{is_before, is_same_parent}
use Rattle.opid.specs.Operations.{Operation, insertions, Insertion}
use Rattle.opid.specs.Tree.{IsPreorder, rising, all, is_child_of, preorder}
use Rattle.opid.specs.Lawful.{IsSound}
use Rattle.opid.proofs.Sound.{IsTree-sound}
use Rattle.opid.proofs.Walk.{Above, IsRising, IsOlder, ParentsOlder, IsOlder-not_same, IsOlder-trans, Each-append, Each-filter, Each-weaker}
use Rattle.opid.proofs.Walk.{append-nil}

-- the same at a list
abbrev pub children_of : List Insertion → Option Stamp → List Insertion
children_of xs p = reverse (filter (is_child_of p) xs)

abbrev pub Preorders : List Insertion → (Option Stamp → List Insertion) → Type 0
Preorders xs f = (p : Option Stamp) → f p ≡ flat_map (λ c. c ∷ f (Some c.stamp)) (children_of xs p)

reverse-push : (x : Insertion) (xs : List Insertion) → reverse (x ∷ xs) ≡ reverse xs ++ x ∷ []
reverse-push x xs = reverse-append (x ∷ []) xs

Each-reverse : (P : Insertion → Type 0) (xs : List Insertion) → Each P xs → Each P (reverse xs)
Each-reverse P [] h = tt
Each-reverse P (x ∷ xs) h = subst (Each P) (sym (reverse-push x xs)) (Each-append P (reverse xs) (x ∷ []) (Each-reverse P xs h.1) (h.0, tt))

-- two functions that agree at each element make one list
flat_map-agree : (f g : Insertion → List Insertion) (xs : List Insertion) → Each (λ x. f x ≡ g x) xs → flat_map f xs ≡ flat_map g xs
flat_map-agree f g [] h = refl
flat_map-agree f g (x ∷ xs) h = ap₂ (λ a b. a ++ b) h.0 (flat_map-agree f g xs h.1)

-- the smallest changes nothing below a greater element, or below itself
preorder-smallest : (x : Insertion) (xs : List Insertion) (s : Stamp) → is_same_parent x.parent (Some s) ≡ false
    → preorder (x ∷ xs) (Some s) ≡ preorder xs (Some s)
preorder-smallest x xs s h = ap (λ r. preorder xs (Some s) ++ r) (cond-false _ _ _ h) ∙ append-nil (preorder xs (Some s))

pub preorder-equation : (xs : List Insertion) → IsRising xs → ParentsOlder xs → Preorders xs (preorder xs)
preorder-equation [] r o p = refl
preorder-equation (x ∷ xs) r o p =
    ap₂ (λ a b. a ++ b) (preorder-equation xs r.1 o.1 p ∙ sym inner) (own (is_child_of p x))
    ∙ sym (flat_map-append step (children_of xs p) (cond (is_child_of p x) (x ∷ []) []))
    ∙ ap (flat_map step) (sym (split (is_child_of p x)))
  where
    step : Insertion → List Insertion
    step = λ c. c ∷ preorder (x ∷ xs) (Some c.stamp)

    inner : flat_map (λ c. c ∷ preorder (x ∷ xs) (Some c.stamp)) (children_of xs p)
        ≡ flat_map (λ c. c ∷ preorder xs (Some c.stamp)) (children_of xs p)
    inner = flat_map-agree _ _ (children_of xs p)
        (Each-reverse (λ c. (c ∷ preorder (x ∷ xs) (Some c.stamp)) ≡ (c ∷ preorder xs (Some c.stamp))) (filter (is_child_of p) xs)
        (Each-filter (λ c. (c ∷ preorder (x ∷ xs) (Some c.stamp)) ≡ (c ∷ preorder xs (Some c.stamp))) (is_child_of p) xs
        (Each-weaker (λ y. is_before x.stamp y.stamp ≡ true)
        (λ c. (c ∷ preorder (x ∷ xs) (Some c.stamp)) ≡ (c ∷ preorder xs (Some c.stamp)))
        (λ y l. ap (λ t. y ∷ t) (preorder-smallest x xs y.stamp
        (IsOlder-not_same x.parent y.stamp (IsOlder-trans x.parent x.stamp y.stamp o.0 l)))) xs r.0)))

    own : (t : Bool) → cond t (x ∷ preorder xs (Some x.stamp)) []
        ≡ flat_map (λ c. c ∷ preorder (x ∷ xs) (Some c.stamp)) (cond t (x ∷ []) [])
    own true = ap (λ t. x ∷ t) (sym (preorder-smallest x xs x.stamp (IsOlder-not_same x.parent x.stamp o.0)))
        ∙ sym (append-nil (x ∷ preorder (x ∷ xs) (Some x.stamp)))
    own false = refl

    split : (t : Bool) → reverse (cond t (x ∷ filter (is_child_of p) xs) (filter (is_child_of p) xs))
        ≡ reverse (filter (is_child_of p) xs) ++ cond t (x ∷ []) []
    split true = reverse-push x (filter (is_child_of p) xs)
    split false = sym (append-nil (reverse (filter (is_child_of p) xs)))

Each-where : (Q : Insertion → Type 0) (t : Insertion → Bool) (xs : List Insertion) → Each (λ c. t c ≡ true → Q c) xs → Each Q (filter t xs)
Each-where Q t [] h = tt
Each-where Q t (x ∷ xs) h = go (t x) refl (Each-where Q t xs h.1)
  where
    go : (b : Bool) → t x ≡ b → Each Q (filter t xs) → Each Q (cond b (x ∷ filter t xs) (filter t xs))
    go true e ih = (h.0 e, ih)
    go false e ih = ih

-- two that agree below each child make one list
below_agree : (xs : List Insertion) (f g : Option Stamp → List Insertion) (p : Option Stamp) → Preorders xs f → Preorders xs g
    → Each (λ c. is_child_of p c ≡ true → f (Some c.stamp) ≡ g (Some c.stamp)) xs → f p ≡ g p
below_agree xs f g p i j h =
    i p
    ∙ flat_map-agree (λ c. c ∷ f (Some c.stamp)) (λ c. c ∷ g (Some c.stamp)) (children_of xs p)
    (Each-reverse (λ c. (c ∷ f (Some c.stamp)) ≡ (c ∷ g (Some c.stamp))) (filter (is_child_of p) xs)
    (Each-where (λ c. (c ∷ f (Some c.stamp)) ≡ (c ∷ g (Some c.stamp))) (is_child_of p) xs
    (Each-weaker (λ c. is_child_of p c ≡ true → f (Some c.stamp) ≡ g (Some c.stamp))
    (λ c. is_child_of p c ≡ true → (c ∷ f (Some c.stamp)) ≡ (c ∷ g (Some c.stamp))) (λ c k e. ap (λ r. c ∷ r) (k e)) xs h)))
    ∙ sym (j p)

agrees : (xs : List Insertion) (f g : Option Stamp → List Insertion) → Preorders xs f → Preorders xs g
    → (front ys : List Insertion) → front ++ ys ≡ xs → IsRising ys → ParentsOlder front → ParentsOlder ys
    → Each (λ e. Above e.stamp ys) front
    → Each (λ y. f (Some y.stamp) ≡ g (Some y.stamp)) ys
agrees xs f g i j front [] e r o q a = tt
agrees xs f g i j front (y ∷ zs) e r o q a =
    let rest : Each (λ z. f (Some z.stamp) ≡ g (Some z.stamp)) zs =
    agrees xs f g i j (front ++ y ∷ []) zs (append_assoc front (y ∷ []) zs ∙ e) r.1
    (Each-append (λ z. IsOlder z.parent z.stamp) front (y ∷ []) o (q.0, tt)) q.1
    (Each-append (λ z. Above z.stamp zs) front (y ∷ []) (Each-weaker (λ z. Above z.stamp (y ∷ zs)) (λ z. Above z.stamp zs)
    (λ z b. b.1) front a) (r.0, tt)) in (
      below_agree xs f g (Some y.stamp) i j
          (subst (Each (λ c. is_child_of (Some y.stamp) c ≡ true → f (Some c.stamp) ≡ g (Some c.stamp))) e
          (Each-append (λ c. is_child_of (Some y.stamp) c ≡ true → f (Some c.stamp) ≡ g (Some c.stamp)) front (y ∷ zs)
          (none front o a) (
            (λ k. absurd (both_ways _ (IsOlder-not_same y.parent y.stamp q.0) k)),
            Each-weaker (λ z. f (Some z.stamp) ≡ g (Some z.stamp))
                (λ c. is_child_of (Some y.stamp) c ≡ true → f (Some c.stamp) ≡ g (Some c.stamp)) (λ z b _. b) zs rest,
          ))),
      rest,
    )
  where
    none : (front : List Insertion) → ParentsOlder front → Each (λ e. Above e.stamp (y ∷ zs)) front
        → Each (λ c. is_child_of (Some y.stamp) c ≡ true → f (Some c.stamp) ≡ g (Some c.stamp)) front
    none [] o a = tt
    none (c ∷ cs) o a = (
      (λ k. absurd (both_ways _ (IsOlder-not_same c.parent y.stamp (IsOlder-trans c.parent c.stamp y.stamp o.0 a.0.0))
          k)),
      none cs o.1 a.1,
    )

-- Only one function meets the tree's equation.
pub preorder_at-only : (xs : List Insertion) → IsRising xs → ParentsOlder xs → (f : Option Stamp → List Insertion) → Preorders xs f
    → (p : Option Stamp) → f p ≡ preorder xs p
preorder_at-only xs r o f i p =
    below_agree xs f (preorder xs) p i (preorder-equation xs r o)
    (Each-weaker (λ y. f (Some y.stamp) ≡ preorder xs (Some y.stamp))
    (λ c. is_child_of p c ≡ true → f (Some c.stamp) ≡ preorder xs (Some c.stamp)) (λ y h _. h) xs
    (agrees xs f (preorder xs) i (preorder-equation xs r o) [] xs refl r tt o tt))

pub preorder-meets : (ops : List Operation) → IsSound ops → IsPreorder ops (preorder (rising (insertions ops)))
preorder-meets ops l = preorder-equation (rising (insertions ops)) (IsTree-sound ops l).rises (IsTree-sound ops l).older

pub preorder-only : (ops : List Operation) → IsSound ops → (f : Option Stamp → List Insertion) → IsPreorder ops f → f None ≡ all ops
preorder-only ops l f i = preorder_at-only (rising (insertions ops)) (IsTree-sound ops l).rises (IsTree-sound ops l).older f i None
