-- What the list shows after one more operation.
use Rattle.std.proofs.Common.{◌≡◌, ℕ, suc, ◌+◌, Bool, true, false, cond, not, ◌||◌, Option, Some, None, List, [], ◌∷◌, ◌++◌, map, length}
use Rattle.std.proofs.Common.{refl, ap, ◌∙◌, sym, subst, arith}
use mathlib.Core.Path.{ap₂}
use Rattle.std.specs.List.{AllByRecursion as Each, list_any}
use Rattle.std.proofs.lemmas.Bool.{cond-true, cond-false, or_parts}
use Rattle.std.proofs.lemmas.List.Sorted.{length_permutation}
use Rattle.opid.specs.declared.stamp.Stamp.{Stamp}
use Rattle.opid.specs.declared.kind.OpKind.TheVariants.{Ins, Del}
use Rattle.opid.specs.Stamps.{is_before, is_same}
use Rattle.opid.specs.Operations.{Operation, Insertion, stamp_at, stamp_of, insertions, has_element, is_deleted}
use Rattle.opid.specs.Tree.{all}
use Rattle.opid.specs.Edits.{place_of}
use Rattle.opid.specs.Lawful.{IsAllowed, IsSound, AreApart}
use Rattle.opid.proofs.Places.{place_of-append}
use Rattle.opid.proofs.Order.{is_same-refl, is_same-sym}
use Rattle.opid.proofs.Walk.{walk, Each-append, Each-weaker, append-nil, stand as stand_among, stand_after as stand_after_among}
use Rattle.opid.proofs.Runs.{all-elements}
use Rattle.opid.proofs.Sound.{op_at, element_at, insertions-push, is_deleted-push, all-permutation, list_any-all, not_deleted-new}
use Rattle.opid.proofs.Sound.{all-insertion, all-deletion, IsAllowed-push, IsSound-push}
use Rattle.rga_list.specs.Entries.{Entry, stand, stand_after, placed, has_stamp, IsAboveItsSite, parent_refusal, hidden}
use Rattle.rga_list.specs.Listed.{entry_for, listed}
use Rattle.rga_list.proofs.Ordered.{has_stamp-above}
use Rattle.rga_list.proofs.Refused.{accepted}

-- the walk among the entries is that among the insertions
map-stand : (f : Insertion → Entry) → ((y : Insertion) → (f y).stamp ≡ y.stamp) → (x : Insertion) (xs : List Insertion)
    → map f (stand_among x xs) ≡ stand (f x) (map f xs)
map-stand f h x [] = refl
map-stand f h x (y ∷ ys) = go (is_before x.stamp y.stamp) (map-stand f h x ys)
    ∙ ap (λ (t : Bool). cond t (f y ∷ stand (f x) (map f ys)) (f x ∷ f y ∷ map f ys))
    (ap (λ s. is_before s y.stamp) (sym (h x)) ∙ ap (λ s. is_before (f x).stamp s) (sym (h y)))
  where
    go : (t : Bool) → map f (stand_among x ys) ≡ stand (f x) (map f ys)
        → map f (cond t (y ∷ stand_among x ys) (x ∷ y ∷ ys)) ≡ cond t (f y ∷ stand (f x) (map f ys)) (f x ∷ f y ∷ map f ys)
    go true ih = ap (λ r. f y ∷ r) ih
    go false ih = refl

map-stand_after : (p : Stamp) (f : Insertion → Entry) → ((y : Insertion) → (f y).stamp ≡ y.stamp) → (x : Insertion) (xs : List Insertion)
    → map f (stand_after_among p x xs) ≡ stand_after p (f x) (map f xs)
map-stand_after p f h x [] = refl
map-stand_after p f h x (y ∷ ys) = go (is_same p y.stamp) (map-stand_after p f h x ys)
    ∙ ap (λ (t : Bool). cond t (f y ∷ stand (f x) (map f ys)) (f y ∷ stand_after p (f x) (map f ys))) (ap (is_same p) (sym (h y)))
  where
    go : (t : Bool) → map f (stand_after_among p x ys) ≡ stand_after p (f x) (map f ys)
        → map f (cond t (y ∷ stand_among x ys) (y ∷ stand_after_among p x ys))
        ≡ cond t (f y ∷ stand (f x) (map f ys)) (f y ∷ stand_after p (f x) (map f ys))
    go true ih = ap (λ r. f y ∷ r) (map-stand f h x ys)
    go false ih = ap (λ r. f y ∷ r) ih

map-walk : (o : Option Stamp) (f : Insertion → Entry) → ((y : Insertion) → (f y).stamp ≡ y.stamp) → (x : Insertion) (xs : List Insertion)
    → map f (walk o x xs) ≡ placed o (f x) (map f xs)
map-walk None f h x xs = map-stand f h x xs
map-walk (Some p) f h x xs = map-stand_after p f h x xs

-- the list has a stamp where the operations do
pub has_stamp-listed : (ops : List Operation) → IsSound ops → (s : Stamp) → has_stamp (listed ops) s ≡ has_element ops s
has_stamp-listed ops h s = go (all ops) ∙ list_any-all ops h s
  where
    go : (xs : List Insertion) → has_stamp (map (entry_for ops) xs) s ≡ list_any (λ x. is_same s x.stamp) xs
    go [] = refl
    go (x ∷ xs) = ap (λ r. is_same s x.stamp || r) (go xs)

-- the newest stands behind all
place_of-newest : (xs : List Insertion) (x : Insertion) → list_any (λ y. is_same x.stamp y.stamp) xs ≡ false
    → place_of x.stamp (xs ++ x ∷ []) ≡ length xs
place_of-newest [] x h = cond-true _ _ _ (is_same-refl x.stamp)
place_of-newest (y ∷ ys) x h =
    let parts = or_parts (is_same x.stamp y.stamp) (list_any (λ z. is_same x.stamp z.stamp) ys) h in
    cond-false _ _ _ parts.0 ∙ ap (λ n. n + 1) (place_of-newest ys x parts.1) ∙ omega arith

length-map : (f : Insertion → Entry) (xs : List Insertion) → length (map f xs) ≡ length xs
length-map f [] = refl
length-map f (x ∷ xs) = ap suc (length-map f xs)

pub length-listed : (ops : List Operation) → IsSound ops → length (listed ops) ≡ length (insertions ops)
length-listed ops h = length-map (entry_for ops) (all ops) ∙ length_permutation (insertions ops) (all ops) (all-permutation ops h)

map-agree : (f g : Insertion → Entry) (xs : List Insertion) → Each (λ y. f y ≡ g y) xs → map f xs ≡ map g xs
map-agree f g [] h = refl
map-agree f g (x ∷ xs) h = ap₂ (λ (v : Entry) w. v ∷ w) h.0 (map-agree f g xs h.1)

or_none : (b : Bool) → (b || false) ≡ b
or_none true = refl
or_none false = refl

inserted_at : (ops : List Operation) (i : ℕ) (w : List ℕ) (o : Option Stamp) (c : ℕ) → IsSound ops → has_element ops (stamp_at i w) ≡ false
    → IsAllowed ops (stamp_at i w) (Ins o c)
    → placed o (record { elem = length (listed ops); stamp = stamp_at i w; ch = c; shown = true }) (listed ops)
    ≡ listed (ops ++ op_at i w (Ins o c) ∷ [])
inserted_at ops i w o c h n a =
    let op : Operation = op_at i w (Ins o c) in
    let x : Insertion = element_at (stamp_at i w) o c in
    let new : List Operation = ops ++ op ∷ [] in
    let pushed : insertions new ≡ insertions ops ++ x ∷ [] = insertions-push ops op in
    let kept : (t : Stamp) → is_deleted new t ≡ is_deleted ops t = λ t. is_deleted-push ops op t ∙ or_none (is_deleted ops t) in
    let old : map (entry_for new) (all ops) ≡ listed ops =
    map-agree (entry_for new) (entry_for ops) (all ops) (Each-weaker (λ y. has_element ops y.stamp ≡ true)
    (λ y. entry_for new y ≡ entry_for ops y) (λ y k.
    ap₂ (λ (e : ℕ) (d : Bool). let r : Entry = record { elem = e; stamp = y.stamp; ch = y.ch; shown = not d } in r)
    (ap (place_of y.stamp) pushed ∙ place_of-append y.stamp (insertions ops) (x ∷ []) k)
    (kept y.stamp)) (all ops) (all-elements ops h)) in
    let here : entry_for new x ≡ record { elem = length (listed ops); stamp = stamp_at i w; ch = c; shown = true } =
    ap₂ (λ (e : ℕ) (d : Bool). let r : Entry = record { elem = e; stamp = stamp_at i w; ch = c; shown = not d } in r)
    (ap (place_of (stamp_at i w)) pushed ∙ place_of-newest (insertions ops) x n ∙ sym (length-listed ops h))
    (kept (stamp_at i w) ∙ not_deleted-new ops h (stamp_at i w) n) in
    sym (ap (map (entry_for new)) (all-insertion ops i w o c h n a) ∙ map-walk o (entry_for new) (λ y. refl) x (all ops)
    ∙ ap₂ (λ (e : Entry) (v : List Entry). placed o e v) here old)

allowed : (ops : List Operation) (s : Stamp) (o : Option Stamp) (c : ℕ) → IsSound ops → parent_refusal (listed ops) o s ≡ None
    → IsAllowed ops s (Ins o c)
allowed ops s None c h r = tt
allowed ops s (Some p) c h r = let a = accepted (listed ops) p s r in (sym (has_stamp-listed ops h p) ∙ a.0, a.1)

-- An insertion that isn't refused may follow, and the list with it is that of the operations with it.
pub listed-insertion : (ops : List Operation) (x : Operation) (s : Stamp) (o : Option Stamp) (c : ℕ) → IsSound ops → stamp_of x ≡ s
    → x.kind ≡ Ins o c
    → IsAboveItsSite (listed ops) s → parent_refusal (listed ops) o s ≡ None
    → IsSound (ops ++ x ∷ []) × (placed o (record { elem = length (listed ops); stamp = s; ch = c; shown = true }) (listed ops)
    ≡ listed (ops ++ x ∷ []))
listed-insertion ops x s o c h e k above refusal =
    let is : op_at x.site x.clock (Ins o c) ≡ x = ap (op_at x.site x.clock) (sym k) in
    let new : has_element ops (stamp_of x) ≡ false =
    sym (has_stamp-listed ops h (stamp_of x)) ∙ ap (has_stamp (listed ops)) e ∙ has_stamp-above (listed ops) s above in
    let may : IsAllowed ops (stamp_of x) (Ins o c) = allowed ops (stamp_of x) o c h (ap (parent_refusal (listed ops) o) e ∙ refusal) in (
      subst (λ y. IsSound (ops ++ y ∷ [])) is (IsSound-push ops (op_at x.site x.clock (Ins o c)) h new may),
      subst (λ v. placed o (record { elem = length (listed ops); stamp = v; ch = c; shown = true }) (listed ops) ≡ listed (ops ++ x ∷ [])) e
          (subst (λ y. placed o (record { elem = length (listed ops); stamp = stamp_of x; ch = c; shown = true }) (listed ops)
          ≡ listed (ops ++ y ∷ [])) is
          (inserted_at ops x.site x.clock o c h new may)),
    )

hide-cases : (t : Stamp) (n : ℕ) (y : Insertion) (b d : Bool)
    → (let m : Entry = record { elem = n; stamp = y.stamp; ch = y.ch; shown = not (d || (b || false)) } in m)
    ≡ cond b (record { elem = n; stamp = y.stamp; ch = y.ch; shown = false })
    (record { elem = n; stamp = y.stamp; ch = y.ch; shown = not d })
hide-cases t n y true true = refl
hide-cases t n y true false = refl
hide-cases t n y false true = refl
hide-cases t n y false false = refl

deleted_at : (ops : List Operation) (i : ℕ) (w : List ℕ) (t : Stamp) → hidden t (listed ops) ≡ listed (ops ++ op_at i w (Del t) ∷ [])
deleted_at ops i w t = sym (ap (map (entry_for new)) (all-deletion ops i w t) ∙ each (all ops))
  where
    new : List Operation
    new = ops ++ op_at i w (Del t) ∷ []

    each : (xs : List Insertion) → map (entry_for (ops ++ op_at i w (Del t) ∷ [])) xs ≡ hidden t (map (entry_for ops) xs)
    each [] = refl
    each (y ∷ ys) = ap₂ (λ (v : Entry) r. v ∷ r)
        (ap₂ (λ (e : ℕ) (d : Bool). let r : Entry = record { elem = e; stamp = y.stamp; ch = y.ch; shown = not d } in r)
        (ap (place_of y.stamp) (insertions-push ops (op_at i w (Del t)) ∙ append-nil (insertions ops)))
        (is_deleted-push ops (op_at i w (Del t)) y.stamp ∙ ap (λ r. is_deleted ops y.stamp || (r || false)) (is_same-sym y.stamp t))
        ∙ hide-cases t (place_of y.stamp (insertions ops)) y (is_same t y.stamp) (is_deleted ops y.stamp))
        (each ys)

-- a sound set stays sound with a deletion of an element, whatever its stamp
IsSound-deletion : (ops : List Operation) (i : ℕ) (w : List ℕ) (t : Stamp) → IsSound ops → has_element ops t ≡ true
    → IsSound (ops ++ op_at i w (Del t) ∷ [])
IsSound-deletion ops i w t h a =
    let x : Operation = op_at i w (Del t) in
    record {
      apart = subst AreApart (sym (insertions-push ops x ∙ append-nil (insertions ops))) h.apart;
      allowed = Each-append (λ y. IsAllowed (ops ++ x ∷ []) (stamp_of y) y.kind) ops (x ∷ [])
          (Each-weaker (λ y. IsAllowed ops (stamp_of y) y.kind) (λ y. IsAllowed (ops ++ x ∷ []) (stamp_of y) y.kind)
          (λ y k. IsAllowed-push ops x (stamp_of y) y.kind k) ops h.allowed)
          (IsAllowed-push ops x (stamp_of x) (Del t) a, tt);
    }

-- A deletion of an element may follow, and the list with it is that of the operations with it.
pub listed-deletion : (ops : List Operation) (x : Operation) (t : Stamp) → IsSound ops → x.kind ≡ Del t → has_stamp (listed ops) t ≡ true
    → IsSound (ops ++ x ∷ []) × (hidden t (listed ops) ≡ listed (ops ++ x ∷ []))
listed-deletion ops x t h k there =
    let is : op_at x.site x.clock (Del t) ≡ x = ap (op_at x.site x.clock) (sym k) in (
      subst (λ y. IsSound (ops ++ y ∷ [])) is (IsSound-deletion ops x.site x.clock t h (sym (has_stamp-listed ops h t) ∙ there)),
      subst (λ y. hidden t (listed ops) ≡ listed (ops ++ y ∷ [])) is (deleted_at ops x.site x.clock t),
    )
