-- Sound sets of operations: they make a tree, and what one more operation does to the order.
use Rattle.std.proofs.Common.{◌≡◌, ℕ, true, false, ◌||◌, Option, Some, None, List, [], ◌∷◌, ◌++◌, refl, ap, ◌∙◌, sym, subst, inl, inr}
use Rattle.std.proofs.lemmas.Bool.{both_ways, false_from_ne_true, or_left, or_cases}
use Rattle.std.proofs.lemmas.List.Folds.{list_any-append}
use Rattle.std.proofs.lemmas.List.Concat.{flat_map-append}
use Rattle.std.proofs.lemmas.List.Sorted.{list_any-IsPermutation}
use Rattle.std.specs.List.{AllByRecursion as Each, list_any}
use Rattle.std.specs.List.Sorted.{IsPermutation}
use Rattle.opid.specs.declared.stamp.Stamp.{Stamp}
use Rattle.opid.specs.declared.kind.OpKind.{OpKind}
use Rattle.opid.specs.declared.kind.OpKind.TheVariants.{Ins, Del}
use Rattle.opid.specs.Stamps.{is_same}
use Rattle.opid.specs.Operations.{Operation, Insertion, stamp_at, stamp_of, inserted_by, insertions, targets_of, targets, has_element}
use Rattle.opid.specs.Operations.{is_deleted}
use Rattle.opid.specs.Tree.{rising, preorder, all}
use Rattle.opid.specs.Lawful.{IsAllowed, AreApart, IsSound}
use Rattle.opid.proofs.Order.{is_same-eq, is_same-sym}
use Rattle.opid.proofs.Walk.{Each-append, Each-weaker, walk, Lacks, IsRising, IsOlder, append-nil, preorder-insert_rising}
use Rattle.opid.proofs.Rising.{Each-none, Each-rising, IsRising-insert_rising, rising-push, HasParent, IsTree, Childless-new}
use Rattle.opid.proofs.Permuted.{preorder-permutation, AreApart-permutation}

-- an operation from its parts
abbrev pub op_at : ℕ → List ℕ → OpKind → Operation
op_at i w k = record { site = i; clock = w; kind = k }

-- the element of an insertion with this stamp
abbrev pub element_at : Stamp → Option Stamp → ℕ → Insertion
element_at s o c = record { stamp = s; parent = o; ch = c }

pub insertions-append : (a b : List Operation) → insertions (a ++ b) ≡ insertions a ++ insertions b
insertions-append a b = flat_map-append (λ (y : Operation). inserted_by (stamp_of y) y.kind) a b

pub insertions-push : (ops : List Operation) (x : Operation)
    → insertions (ops ++ x ∷ []) ≡ insertions ops ++ inserted_by (stamp_of x) x.kind
insertions-push ops x = insertions-append ops (x ∷ []) ∙ ap (λ r. insertions ops ++ r) (append-nil (inserted_by (stamp_of x) x.kind))

pub targets-append : (a b : List Operation) → targets (a ++ b) ≡ targets a ++ targets b
targets-append a b = flat_map-append (λ (y : Operation). targets_of y.kind) a b

pub targets-push : (ops : List Operation) (x : Operation) → targets (ops ++ x ∷ []) ≡ targets ops ++ targets_of x.kind
targets-push ops x = targets-append ops (x ∷ []) ∙ ap (λ r. targets ops ++ r) (append-nil (targets_of x.kind))

pub has_element-push : (ops : List Operation) (x : Operation) (s : Stamp) → has_element ops s ≡ true → has_element (ops ++ x ∷ []) s ≡ true
has_element-push ops x s h =
    ap (list_any (λ y. is_same s y.stamp)) (insertions-push ops x)
    ∙ list_any-append (λ (y : Insertion). is_same s y.stamp) (insertions ops) (inserted_by (stamp_of x) x.kind)
    ∙ or_left _ _ h

pub is_deleted-push : (ops : List Operation) (x : Operation) (s : Stamp)
    → is_deleted (ops ++ x ∷ []) s ≡ (is_deleted ops s || list_any (λ t. is_same s t) (targets_of x.kind))
is_deleted-push ops x s = ap (list_any (λ t. is_same s t)) (targets-push ops x)
    ∙ list_any-append (λ (t : Stamp). is_same s t) (targets ops) (targets_of x.kind)

pub IsAllowed-older : (ops : List Operation) (s : Stamp) (o : Option Stamp) (c : ℕ) → IsAllowed ops s (Ins o c) → IsOlder o s
IsAllowed-older ops s None c h = tt
IsAllowed-older ops s (Some p) c h = h.1

pub IsAllowed-has : (ops : List Operation) (s : Stamp) (o : Option Stamp) (c : ℕ) → IsAllowed ops s (Ins o c) → HasParent (insertions ops) o
IsAllowed-has ops s None c h = tt
IsAllowed-has ops s (Some p) c h = h.0

IsRising-rising : (xs : List Insertion) → AreApart xs → IsRising (rising xs)
IsRising-rising [] a = tt
IsRising-rising (x ∷ xs) a = IsRising-insert_rising x (rising xs) (Each-rising (λ y. is_same x.stamp y.stamp ≡ false) xs a.0)
    (IsRising-rising xs a.1)

Each-inserted : (ops : List Operation) (s : Stamp) (k : OpKind) → IsAllowed ops s k
    → Each (λ y. IsOlder y.parent y.stamp × HasParent (insertions ops) y.parent) (inserted_by s k)
Each-inserted ops s (Ins o c) a = ((IsAllowed-older ops s o c a, IsAllowed-has ops s o c a), tt)
Each-inserted ops s (Del d) a = tt

Each-insertions : (ops xs : List Operation) → Each (λ x. IsAllowed ops (stamp_of x) x.kind) xs
    → Each (λ y. IsOlder y.parent y.stamp × HasParent (insertions ops) y.parent) (insertions xs)
Each-insertions ops [] h = tt
Each-insertions ops (x ∷ xs) h =
    Each-append (λ y. IsOlder y.parent y.stamp × HasParent (insertions ops) y.parent) (inserted_by (stamp_of x) x.kind) (insertions xs)
    (Each-inserted ops (stamp_of x) x.kind h.0) (Each-insertions ops xs h.1)

-- the insertions of a sound set make a tree
pub IsTree-sound : (ops : List Operation) → IsSound ops → IsTree (insertions ops)
IsTree-sound ops h =
    let both : Each (λ y. IsOlder y.parent y.stamp × HasParent (insertions ops) y.parent) (rising (insertions ops)) =
    Each-rising (λ y. IsOlder y.parent y.stamp × HasParent (insertions ops) y.parent) (insertions ops)
    (Each-insertions ops ops h.allowed) in
    record {
      rises = IsRising-rising (insertions ops) h.apart;
      older = Each-weaker (λ y. IsOlder y.parent y.stamp × HasParent (insertions ops) y.parent) (λ y. IsOlder y.parent y.stamp) (λ y k. k.0)
          (rising (insertions ops)) both;
      closed = Each-weaker (λ y. IsOlder y.parent y.stamp × HasParent (insertions ops) y.parent) (λ y. HasParent (insertions ops) y.parent)
          (λ y k. k.1) (rising (insertions ops)) both;
    }

-- the order has each insertion of a sound set, and no other
pub all-permutation : (ops : List Operation) → IsSound ops → IsPermutation (insertions ops) (all ops)
all-permutation ops h = preorder-permutation (insertions ops) (IsTree-sound ops h)

pub list_any-all : (ops : List Operation) → IsSound ops → (s : Stamp) → list_any (λ x. is_same s x.stamp) (all ops) ≡ has_element ops s
list_any-all ops h s = sym (list_any-IsPermutation (λ (x : Insertion). is_same s x.stamp) (insertions ops) (all ops)
    (all-permutation ops h))

-- no two elements of the order have one stamp
pub AreApart-all : (ops : List Operation) → IsSound ops → AreApart (all ops)
AreApart-all ops h = AreApart-permutation (insertions ops) (all ops) (all-permutation ops h) h.apart

-- only elements are deleted
pub is_deleted-element : (ops : List Operation) → IsSound ops → (s : Stamp) → is_deleted ops s ≡ true → has_element ops s ≡ true
is_deleted-element ops h s d = targeted ops h.allowed d
  where
    target : (t : Stamp) (k : OpKind) → IsAllowed ops t k → list_any (λ t. is_same s t) (targets_of k) ≡ true → has_element ops s ≡ true
    target t (Ins o c) a e = cc
    target t (Del u) a e = elim (or_cases (is_same s u) false e) [
      | inl q ↦ subst (λ r. has_element ops r ≡ true) (sym (is_same-eq s u q)) a
      | inr q ↦ absurd (both_ways _ refl q)
    ]

    targeted : (xs : List Operation) → Each (λ x. IsAllowed ops (stamp_of x) x.kind) xs → list_any (λ t. is_same s t) (targets xs) ≡ true
        → has_element ops s ≡ true
    targeted [] a e = cc
    targeted (x ∷ xs) a e = elim (or_cases (list_any (λ t. is_same s t) (targets_of x.kind)) (list_any (λ t. is_same s t) (targets xs))
        (sym (list_any-append (λ (t : Stamp). is_same s t) (targets_of x.kind) (targets xs)) ∙ e)) [
          | inl q ↦ target (stamp_of x) x.kind a.0 q
          | inr q ↦ targeted xs a.1 q
        ]

pub not_deleted-new : (ops : List Operation) → IsSound ops → (s : Stamp) → has_element ops s ≡ false → is_deleted ops s ≡ false
not_deleted-new ops h s n = false_from_ne_true (is_deleted ops s) (λ e. both_ways _ n (is_deleted-element ops h s e))

-- the order after an insertion is the order before it with the walk's step
pub all-insertion : (ops : List Operation) (i : ℕ) (w : List ℕ) (o : Option Stamp) (c : ℕ) → IsSound ops
    → has_element ops (stamp_at i w) ≡ false → IsAllowed ops (stamp_at i w) (Ins o c)
    → all (ops ++ op_at i w (Ins o c) ∷ []) ≡ walk o (element_at (stamp_at i w) o c) (all ops)
all-insertion ops i w o c h n a =
    let t : IsTree (insertions ops) = IsTree-sound ops h in
    ap (λ r. preorder (rising r) None) (insertions-push ops (op_at i w (Ins o c)))
    ∙ ap (λ r. preorder r None) (rising-push (insertions ops) (element_at (stamp_at i w) o c)
    (Each-none (λ y. is_same (stamp_at i w) y.stamp) (insertions ops) n))
    ∙ preorder-insert_rising (stamp_at i w) o c (rising (insertions ops)) (IsAllowed-older ops (stamp_at i w) o c a) t.rises t.older
    (Childless-new (stamp_at i w) (insertions ops) t n)

-- and after a deletion it is the same
pub all-deletion : (ops : List Operation) (i : ℕ) (w : List ℕ) (t : Stamp) → all (ops ++ op_at i w (Del t) ∷ []) ≡ all ops
all-deletion ops i w t = ap (λ r. preorder (rising r) None) (insertions-push ops (op_at i w (Del t)) ∙ append-nil (insertions ops))

pub IsAllowed-push : (ops : List Operation) (x : Operation) (s : Stamp) (k : OpKind) → IsAllowed ops s k → IsAllowed (ops ++ x ∷ []) s k
IsAllowed-push ops x s (Ins None c) a = tt
IsAllowed-push ops x s (Ins (Some p) c) a = (has_element-push ops x p a.0, a.1)
IsAllowed-push ops x s (Del d) a = has_element-push ops x d a

AreApart-push : (xs : List Insertion) (x : Insertion) → Lacks x.stamp xs → AreApart xs → AreApart (xs ++ x ∷ [])
AreApart-push [] x l a = (tt, tt)
AreApart-push (y ∷ ys) x l a =
    (Each-append (λ z. is_same y.stamp z.stamp ≡ false) ys (x ∷ []) a.0 (is_same-sym y.stamp x.stamp ∙ l.0, tt), AreApart-push ys x l.1 a.1)

AreApart-inserted : (xs : List Insertion) (s : Stamp) (k : OpKind) → Lacks s xs → AreApart xs → AreApart (xs ++ inserted_by s k)
AreApart-inserted xs s (Ins o c) l a = AreApart-push xs (element_at s o c) l a
AreApart-inserted xs s (Del d) l a = subst AreApart (sym (append-nil xs)) a

-- a sound set stays sound with a new operation that is allowed
pub IsSound-push : (ops : List Operation) (x : Operation) → IsSound ops → has_element ops (stamp_of x) ≡ false
    → IsAllowed ops (stamp_of x) x.kind → IsSound (ops ++ x ∷ [])
IsSound-push ops x h n a = record {
  apart = subst AreApart (sym (insertions-push ops x)) (AreApart-inserted (insertions ops) (stamp_of x) x.kind
      (Each-none (λ y. is_same (stamp_of x) y.stamp) (insertions ops) n) h.apart);
  allowed = Each-append (λ y. IsAllowed (ops ++ x ∷ []) (stamp_of y) y.kind) ops (x ∷ [])
      (Each-weaker (λ y. IsAllowed ops (stamp_of y) y.kind) (λ y. IsAllowed (ops ++ x ∷ []) (stamp_of y) y.kind)
      (λ y k. IsAllowed-push ops x (stamp_of y) y.kind k) ops h.allowed)
      (IsAllowed-push ops x (stamp_of x) x.kind a, tt);
}
