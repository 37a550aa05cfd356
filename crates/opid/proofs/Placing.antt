-- Asked insertions stand at their place in the version that was named.
use Rattle.std.proofs.Common.{◌≡◌, ℕ, ◌+◌, ◌<◌, ◌≤◌, zero, suc, Bool, true, false, cond, not, eqb-true, Option, Some, None, List, [], ◌∷◌}
use Rattle.std.proofs.Common.{◌++◌, length, sum, take, drop, refl, ap, ◌∙◌, sym, subst, arith, append_assoc, take-append-drop}
use mathlib.Core.Path.{ap₂}
use Rattle.std.specs.Prelude.{filter, slice_get, option_map, ◌==◌}
use Rattle.std.specs.List.{AllByRecursion as Each, list_any}
use Rattle.std.proofs.Math.Bool.{or-false}
use Rattle.std.proofs.lemmas.Bool.{false_from_ne_true, cond-true, cond-false}
use Rattle.std.proofs.lemmas.Bool.Decides.{nat_tests}
use Rattle.std.proofs.lemmas.List.{length-append, length-take-le, take_at, drop_at}
use Rattle.std.proofs.lemmas.List.Elements.{filter_agree}
use Rattle.opid.specs.declared.stamp.Stamp.{Stamp}
use Rattle.opid.specs.declared.kind.OpKind.TheVariants.{Ins}
use Rattle.opid.specs.Stamps.{is_before, is_same}
use Rattle.opid.specs.Clocks.{raised}
use Rattle.opid.specs.Operations.{Operation, Insertion, stamp_at, insertions, has_element, is_deleted}
use Rattle.opid.specs.Delivery.{clock_of}
use Rattle.opid.specs.Tree.{all}
use Rattle.opid.specs.Reading.{visible, visible_at}
use Rattle.opid.specs.Lawful.{IsAllowed, IsLawful, IsSound, AreApart}
use Rattle.opid.specs.Asked.{parent_at, insertion_run, asked_insertions, IsPlaced}
use Rattle.opid.proofs.Order.{is_same-refl, is_same-sym}
use Rattle.opid.proofs.Walk.{Each-append, Each-filter, Each-weaker, stand, stand_after, walk, append-nil}
use Rattle.opid.proofs.Rising.{HasParent}
use Rattle.opid.proofs.Sound.{op_at, element_at, is_deleted-push, not_deleted-new, list_any-all, AreApart-all, all-insertion, IsSound-push}
use Rattle.opid.proofs.Logs.{IsLawful-take, IsSound-lawful}
use Rattle.opid.proofs.Counts.{length-clock_of, length-raised, sum-raised, sum-clock_of, sums_within}
use Rattle.opid.proofs.Runs.{Each-some, Each-member, Each-take, has_element-sum, smaller, has_element-new, parent_at-has_version}

-- ---- parts of lists

take-zero : {X : Type 0} (xs : List X) → take 0 xs ≡ []
take-zero [] = refl
take-zero (x ∷ xs) = refl

pub drop-zero : {X : Type 0} (xs : List X) → drop 0 xs ≡ xs
drop-zero [] = refl
drop-zero (x ∷ xs) = refl

-- x stands behind the first k, which are a
take-middle : (a : List Insertion) (x : Insertion) (b : List Insertion) (k : ℕ) → length a ≡ k → take (suc k) (a ++ x ∷ b) ≡ a ++ x ∷ []
take-middle a x b k e =
    ap (take (suc k)) (sym (append_assoc a (x ∷ []) b))
    ∙ take_at (a ++ x ∷ []) b (suc k) (omega (arith, length-append a (x ∷ []), e))

drop-middle : (a : List Insertion) (x : Insertion) (b : List Insertion) (k : ℕ) → length a ≡ k → drop (suc k) (a ++ x ∷ b) ≡ b
drop-middle a x b k e =
    ap (drop (suc k)) (sym (append_assoc a (x ∷ []) b))
    ∙ drop_at (a ++ x ∷ []) b (suc k) (omega (arith, length-append a (x ∷ []), e))

pub get-middle : {X : Type 0} (a : List X) (x : X) (b : List X) (k : ℕ) → length a ≡ k → slice_get (a ++ x ∷ b) k ≡ Some x
get-middle [] x b zero e = refl
get-middle [] x b (suc k) e = absurd (omega (arith, e))
get-middle (y ∷ a) x b zero e = absurd (omega (arith, e))
get-middle (y ∷ a) x b (suc k) e = get-middle a x b k (omega (arith, e))

pub get-within : {X : Type 0} (xs : List X) (k : ℕ) → k < length xs → (e : X) × (slice_get xs k ≡ Some e)
get-within [] k h = absurd (omega (arith, h))
get-within (x ∷ xs) zero h = (x, refl)
get-within (x ∷ xs) (suc k) h = get-within xs k (omega (arith, h))

-- ---- the walk of an element with the greatest stamp

-- none is after s
abbrev NoneAfter : Stamp → List Insertion → Type 0
NoneAfter s xs = Each (λ y. is_before s y.stamp ≡ false) xs

stand-greatest : (x : Insertion) (xs : List Insertion) → NoneAfter x.stamp xs → stand x xs ≡ x ∷ xs
stand-greatest x [] h = refl
stand-greatest x (y ∷ ys) h = cond-false _ _ _ h.0

-- behind the j-th of those that are kept
kept_behind : (keep : Insertion → Bool) (x e : Insertion) (xs : List Insertion) (j : ℕ) → AreApart xs → NoneAfter x.stamp xs → keep x ≡ true
    → slice_get (filter keep xs) j ≡ Some e
    → filter keep (stand_after e.stamp x xs) ≡ take (suc j) (filter keep xs) ++ x ∷ drop (suc j) (filter keep xs)
kept_behind keep x e [] j a n k h = cc
kept_behind keep x e (y ∷ ys) j a n k h = go (keep y) refl j h (λ i. kept_behind keep x e ys i a.1 n.1 k)
  where
    -- an element further on is not y
    further : (i : ℕ) → slice_get (filter keep ys) i ≡ Some e → is_same e.stamp y.stamp ≡ false
    further i g = is_same-sym e.stamp y.stamp ∙ Each-some (λ z. is_same y.stamp z.stamp ≡ false) (filter keep ys) i e
        (Each-filter (λ z. is_same y.stamp z.stamp ≡ false) keep ys a.0) g

    here : keep y ≡ true → y ≡ e → filter keep (stand_after e.stamp x (y ∷ ys)) ≡ y ∷ x ∷ filter keep ys
    here t q =
        ap (filter keep) (cond-true _ _ _ (subst (λ v. is_same v y.stamp ≡ true) (ap (λ (z : Insertion). z.stamp) q) (is_same-refl y.stamp))
        ∙ ap (λ r. y ∷ r) (stand-greatest x ys n.1))
        ∙ cond-true _ _ _ t
        ∙ ap (λ r. y ∷ r) (cond-true _ _ _ k)

    passed : (i : ℕ) → slice_get (filter keep ys) i ≡ Some e → stand_after e.stamp x (y ∷ ys) ≡ y ∷ stand_after e.stamp x ys
    passed i g = cond-false _ _ _ (further i g)

    go : (t : Bool) → keep y ≡ t → (j : ℕ) → slice_get (cond t (y ∷ filter keep ys) (filter keep ys)) j ≡ Some e
        → ((i : ℕ) → slice_get (filter keep ys) i ≡ Some e → filter keep (stand_after e.stamp x ys)
        ≡ take (suc i) (filter keep ys) ++ x ∷ drop (suc i) (filter keep ys))
        → filter keep (stand_after e.stamp x (y ∷ ys)) ≡ take (suc j) (cond t (y ∷ filter keep ys) (filter keep ys)) ++ x
        ∷ drop (suc j) (cond t (y ∷ filter keep ys) (filter keep ys))
    go true t zero g ih =
        let q : y ≡ e = cc in
        here t q ∙ sym (ap₂ (λ (f : List Insertion) (r : List Insertion). (y ∷ f) ++ x ∷ r) (take-zero (filter keep ys))
        (drop-zero (filter keep ys)))
    go true t (suc i) g ih = ap (filter keep) (passed i g) ∙ cond-true _ _ _ t ∙ ap (λ r. y ∷ r) (ih i g)
    go false t j g ih = ap (filter keep) (passed j g) ∙ cond-false _ _ _ t ∙ ih j g

-- ---- one insertion

-- what is put in at place k of these has this parent
abbrev IsParentAt : List Insertion → ℕ → Option Stamp → Type 0
IsParentAt shown zero o = o ≡ None
IsParentAt shown (suc j) o = (e : Insertion) × (slice_get shown j ≡ Some e) × (o ≡ Some e.stamp)

-- what is visible after an insertion: the walk among what was visible
visible-insertion : (ops : List Operation) (i : ℕ) (w : List ℕ) (o : Option Stamp) (c : ℕ) → IsSound ops
    → has_element ops (stamp_at i w) ≡ false → IsAllowed ops (stamp_at i w) (Ins o c)
    → visible (ops ++ op_at i w (Ins o c) ∷ []) ≡ filter (λ y. not (is_deleted ops y.stamp))
    (walk o (element_at (stamp_at i w) o c) (all ops))
visible-insertion ops i w o c h n a =
    filter_agree (λ y. not (is_deleted (ops ++ op_at i w (Ins o c) ∷ []) y.stamp)) (λ y. not (is_deleted ops y.stamp))
    (λ y. ap not (is_deleted-push ops (op_at i w (Ins o c)) y.stamp ∙ or-false (is_deleted ops y.stamp)))
    (all (ops ++ op_at i w (Ins o c) ∷ []))
    ∙ ap (filter (λ y. not (is_deleted ops y.stamp))) (all-insertion ops i w o c h n a)

-- an insertion with the greatest stamp stands at the place of its parent
visible-placed : (ops : List Operation) (i : ℕ) (w : List ℕ) (o : Option Stamp) (c k : ℕ) → IsSound ops
    → has_element ops (stamp_at i w) ≡ false → IsAllowed ops (stamp_at i w) (Ins o c)
    → NoneAfter (stamp_at i w) (all ops) → IsParentAt (visible ops) k o
    → visible (ops ++ op_at i w (Ins o c) ∷ []) ≡ take k (visible ops) ++ element_at (stamp_at i w) o c ∷ drop k (visible ops)
visible-placed ops i w o c k h n a g p = visible-insertion ops i w o c h n a ∙ at k p
  where
    keep : Insertion → Bool
    keep = λ y. not (is_deleted ops y.stamp)

    kept : not (is_deleted ops (stamp_at i w)) ≡ true
    kept = ap not (not_deleted-new ops h (stamp_at i w) n)

    at : (k : ℕ) → IsParentAt (visible ops) k o → filter (λ y. not (is_deleted ops y.stamp))
        (walk o (element_at (stamp_at i w) o c) (all ops)) ≡ take k (visible ops) ++ element_at (stamp_at i w) o c ∷ drop k (visible ops)
    at zero e =
        subst (λ q. filter (λ y. not (is_deleted ops y.stamp)) (walk q (element_at (stamp_at i w) o c) (all ops))
        ≡ take 0 (visible ops) ++ element_at (stamp_at i w) o c ∷ drop 0 (visible ops)) (sym e)
        (ap (filter (λ y. not (is_deleted ops y.stamp))) (stand-greatest (element_at (stamp_at i w) o c) (all ops) g)
        ∙ cond-true _ _ _ kept
        ∙ sym (ap₂ (λ (f : List Insertion) (r : List Insertion). f ++ element_at (stamp_at i w) o c ∷ r) (take-zero (visible ops))
        (drop-zero (visible ops))))
    at (suc j) (e, f, q) =
        subst (λ r. filter (λ y. not (is_deleted ops y.stamp)) (walk r (element_at (stamp_at i w) o c) (all ops))
        ≡ take (suc j) (visible ops) ++ element_at (stamp_at i w) o c ∷ drop (suc j) (visible ops)) (sym q)
        (kept_behind (λ y. not (is_deleted ops y.stamp)) (element_at (stamp_at i w) o c) e (all ops) j (AreApart-all ops h) g kept f)

-- ---- a run

not_after : (y s : Stamp) (n : ℕ) → y.sum ≤ n → n < s.sum → is_before s y ≡ false
not_after y s n h k = grind (arith, nat_tests)

none_after : (ops : List Operation) (n : ℕ) (s : Stamp) → IsSound ops → Each (λ y. sum y.clock ≤ n) ops → n < s.sum → NoneAfter s (all ops)
none_after ops n s h b k =
    Each-weaker (λ (y : Insertion). list_any (λ z. is_same y.stamp z.stamp) (all ops) ≡ true) (λ y. is_before s y.stamp ≡ false)
    (λ y m. not_after y.stamp s n (has_element-sum n ops y.stamp b (sym (list_any-all ops h y.stamp) ∙ m)) k) (all ops)
    (Each-member (all ops))

new_stamp : (ops : List Operation) (n : ℕ) (s : Stamp) → Each (λ y. sum y.clock ≤ n) ops → n < s.sum → has_element ops s ≡ false
new_stamp ops n s b k = false_from_ne_true (has_element ops s) (λ e. omega (arith, has_element-sum n ops s b e, k))

run_placed : (chars : List ℕ) (ops : List Operation) (site : ℕ) (clock : List ℕ) (o : Option Stamp) (k : ℕ) → IsSound ops
    → site < length clock → Each (λ y. sum y.clock ≤ sum clock) ops
    → HasParent (insertions ops) o → IsParentAt (visible ops) k o → k ≤ length (visible ops)
    → visible (ops ++ insertion_run site clock o chars) ≡ take k (visible ops) ++ insertions (insertion_run site clock o chars)
    ++ drop k (visible ops)
run_placed [] ops site clock o k h b m q p l =
    ap visible (append-nil ops) ∙ sym (ap (λ r. r ++ drop k (visible ops)) (append-nil (take k (visible ops)))
    ∙ take-append-drop k (visible ops))
run_placed (ch ∷ chs) ops site clock o k h b m q p l =
    ap visible (sym (append_assoc ops (op_at site (raised clock site) (Ins o ch) ∷ [])
    (insertion_run site (raised clock site) (Some (stamp_at site (raised clock site))) chs)))
    ∙ run_placed chs (ops ++ op_at site (raised clock site) (Ins o ch) ∷ []) site (raised clock site)
    (Some (stamp_at site (raised clock site))) (suc k) sound (omega (arith, b, length-raised clock site)) within there
    (subst (λ v. IsParentAt v (suc k) (Some (stamp_at site (raised clock site)))) (sym here)
    (element, get-middle (take k (visible ops)) element (drop k (visible ops)) k front, refl))
    (omega (arith, l, ap length here, length-append (take k (visible ops)) (element ∷ drop k (visible ops)), front))
    ∙ ap₂ (λ (f : List Insertion) (r : List Insertion). f ++ insertions
    (insertion_run site (raised clock site) (Some (stamp_at site (raised clock site))) chs) ++ r)
    (ap (take (suc k)) here ∙ take-middle (take k (visible ops)) element (drop k (visible ops)) k front)
    (ap (drop (suc k)) here ∙ drop-middle (take k (visible ops)) element (drop k (visible ops)) k front)
    ∙ ap (λ r. r ++ drop k (visible ops)) (append_assoc (take k (visible ops)) (element ∷ [])
    (insertions (insertion_run site (raised clock site) (Some (stamp_at site (raised clock site))) chs)))
  where
    element : Insertion
    element = element_at (stamp_at site (raised clock site)) o ch

    higher : sum (raised clock site) ≡ sum clock + 1
    higher = sum-raised clock site b

    new : has_element ops (stamp_at site (raised clock site)) ≡ false
    new = new_stamp ops (sum clock) (stamp_at site (raised clock site)) m (omega (arith, sum-raised clock site b))

    allowed : (o : Option Stamp) → HasParent (insertions ops) o → IsAllowed ops (stamp_at site (raised clock site)) (Ins o ch)
    allowed None q = tt
    allowed (Some s) q = (
      q,
      smaller s (sum (raised clock site)) site
          (omega (arith, has_element-sum (sum clock) ops s m q, sum-raised clock site b)),
    )

    sound : IsSound (ops ++ op_at site (raised clock site) (Ins o ch) ∷ [])
    sound = IsSound-push ops (op_at site (raised clock site) (Ins o ch)) h new (allowed o q)

    within : Each (λ y. sum y.clock ≤ sum (raised clock site)) (ops ++ op_at site (raised clock site) (Ins o ch) ∷ [])
    within = Each-append (λ y. sum y.clock ≤ sum (raised clock site)) ops (op_at site (raised clock site) (Ins o ch) ∷ [])
        (Each-weaker (λ (y : Operation). sum y.clock ≤ sum clock) (λ y. sum y.clock ≤ sum (raised clock site))
        (λ y e. omega (arith, e, sum-raised clock site b)) ops m) (omega arith, tt)

    here : visible (ops ++ op_at site (raised clock site) (Ins o ch) ∷ [])
        ≡ take k (visible ops) ++ element_at (stamp_at site (raised clock site)) o ch ∷ drop k (visible ops)
    here = visible-placed ops site (raised clock site) o ch k h new (allowed o q)
        (none_after ops (sum clock) (stamp_at site (raised clock site)) h m (omega (arith, sum-raised clock site b))) p

    there : has_element (ops ++ op_at site (raised clock site) (Ins o ch) ∷ []) (stamp_at site (raised clock site)) ≡ true
    there = has_element-new ops (op_at site (raised clock site) (Ins o ch)) o ch

    front : length (take k (visible ops)) ≡ k
    front = length-take-le k (visible ops) l

parent_at-is : (log : List Operation) (v k : ℕ) → k ≤ length (visible_at log v) → IsParentAt (visible_at log v) k (parent_at log v k)
parent_at-is log v zero l = refl
parent_at-is log v (suc j) l =
    let found : (e : Insertion) × (slice_get (visible_at log v) j ≡ Some e) = get-within (visible_at log v) j (omega (arith, l)) in (
      found.0,
      found.1,
      cond-false (suc j == 0) _ _ (false_from_ne_true (suc j == 0) (λ e. omega (arith, eqb-true (suc j) 0 e)))
          ∙ ap (λ (i : ℕ). option_map (λ (x : Insertion). x.stamp) (slice_get (visible_at log v) i)) (omega arith)
          ∙ ap (option_map (λ (x : Insertion). x.stamp)) found.1,
    )

-- What is asked for at place k of a version stands there.
pub asked_insertions-placed : (log : List Operation) (site v k : ℕ) (chars : List ℕ) → IsLawful log → site < 32
    → k ≤ length (visible_at log v)
    → IsPlaced log v k (asked_insertions log site v k chars)
asked_insertions-placed log site v k chars l b h =
    run_placed chars (take v log) site (clock_of log) (parent_at log v k) k (IsSound-lawful (take v log) (IsLawful-take log v l))
    (omega (arith, b, length-clock_of log))
    (Each-take (λ (y : Operation). sum y.clock ≤ sum (clock_of log)) v log
    (Each-weaker (λ (y : Operation). sum y.clock ≤ length log) (λ y. sum y.clock ≤ sum (clock_of log))
    (λ y e. omega (arith, e, sum-clock_of log l)) log (sums_within log l)))
    (parent_at-has_version log v k l) (parent_at-is log v k h) h
