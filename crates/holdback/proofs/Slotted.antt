-- Operations in slots.
use Rattle.std.proofs.Common.{◌≡◌, ℕ, zero, suc, ◌+◌, ◌<◌, ◌≤◌, Bool, true, false, List, [], ◌∷◌, ◌++◌, length, map, get_or, refl, ap, ◌∙◌}
use Rattle.std.proofs.Common.{sym, subst, arith, ◌==◌, eqb-true, eq-eqb, take, drop, set, cond, ◌-◌, append_assoc}
use mathlib.Core.Path.{ap₂}
use Rattle.std.specs.List.{copy_within, remove, All, AllByRecursion, IsDistinct}
use Rattle.std.specs.Prelude.{IsPermutation}
use Rattle.std.proofs.lemmas.List.{get_or-take, length-map, length-take-le, get_or-set_same, get_or-set_other}
use Rattle.std.proofs.lemmas.List.{length-append, map-append, get_or_append_left, take-append-drop, take_at}
use Rattle.std.proofs.lemmas.List.Elements.{All-append}
use Rattle.std.proofs.lemmas.List.Sorted.{All-permutation, IsPermutation-append_comm, IsPermutation-append_left, IsPermutation-remove}
use Rattle.std.proofs.lemmas.List.Sorted.{IsPermutation-trans}
use Rattle.std.proofs.lemmas.List.Edits.{length-remove}
use Rattle.std.proofs.lemmas.Map.Keys.{IsDistinct-IsPermutation}
use Rattle.std.proofs.Math.Seq.{take-suc, take-length, get_or-append_seam}
use Rattle.opid.specs.Operations.{Operation}
use Rattle.holdback.proofs.Numbers.{one_removed}
use Rattle.holdback.specs.Internal.Slots.{arranged, in_no_slot, AreSlots}

pub arranged_length : (slots : List Operation) (order : List ℕ) (n : ℕ) → n ≤ length order → length (arranged slots order n) ≡ n
arranged_length slots order n l = length-map (take n order) (λ s. get_or slots s in_no_slot) ∙ length-take-le n order l

-- what an operation in a slot that isn't among these changes
untouched : (slots : List Operation) (s : ℕ) (x : Operation) (ks : List ℕ) → AllByRecursion (λ k. (k == s) ≡ false) ks
    → map (λ k. get_or (set slots s x) k in_no_slot) ks ≡ map (λ k. get_or slots k in_no_slot) ks
untouched slots s x [] h = refl
untouched slots s x (k ∷ ks) h =
    ap₂ (λ (y : Operation) (ys : List Operation). y ∷ ys)
    (get_or-set_other slots s k x in_no_slot (λ e. absurd (omega
    (arith, ap {B = ℕ} (λ b. cond b 1 0) (sym (eq-eqb k s e) ∙ h.0))))) (untouched slots s x ks h.1)

at_one : (P : ℕ → Type 0) (ks : List ℕ) (n d : ℕ) → n < length ks → AllByRecursion P ks → P (get_or ks n d)
at_one P [] n d l h = absurd (omega arith)
at_one P (k ∷ ks) zero d l h = h.0
at_one P (k ∷ ks) (suc n) d l h = at_one P ks n d (omega (arith, l)) h.1

fresh : (ks : List ℕ) (n d : ℕ) → n < length ks → IsDistinct (λ s t. s == t) ks → AllByRecursion
    (λ k. (k == get_or ks n d) ≡ false) (take n ks)
unfolding IsDistinct
fresh [] n d l h = absurd (omega arith)
fresh (k ∷ ks) zero d l h = tt
fresh (k ∷ ks) (suc n) d l h = (at_one (λ j. (k == j) ≡ false) ks n d (omega (arith, l)) h.0, fresh ks n d (omega (arith, l)) h.1)

-- an operation in the first free slot stands behind the others
pub put_free : (slots : List Operation) (order : List ℕ) (n s : ℕ) (x : Operation) → n < length order → s ≡ get_or order n s
    → AreSlots (length slots) order
    → arranged (set slots s x) order (n + 1) ≡ arranged slots order n ++ x ∷ []
put_free slots order n s x l e h =
    let old : ℕ → Operation = λ k. get_or slots k in_no_slot in
    let new : ℕ → Operation = λ k. get_or (set slots s x) k in_no_slot in
    let one : n + 1 ≡ suc n = omega arith in
    let others : AllByRecursion (λ k. (k == s) ≡ false) (take n order) =
    subst (λ t. AllByRecursion (λ k. (k == t) ≡ false) (take n order)) (sym e) (fresh order n s l h.1) in
    let inside : s < length slots = subst (λ t. t < length slots) (sym e) (h.0 n s l) in
    ap (λ m. map new (take m order)) one ∙ ap (map new) (take-suc order n s l) ∙ map-append new (take n order) (get_or order n s ∷ [])
    ∙ ap₂ (λ (ys : List Operation) (y : Operation). ys ++ y ∷ []) (untouched slots s x (take n order) others)
    (ap new (sym e) ∙ get_or-set_same slots s x in_no_slot inside)

-- in a new slot too
stay : (slots : List Operation) (x : Operation) (ks : List ℕ) → ((k d : ℕ) → k < length ks → get_or ks k d < length slots)
    → map (λ k. get_or (slots ++ x ∷ []) k in_no_slot) ks ≡ map (λ k. get_or slots k in_no_slot) ks
stay slots x [] h = refl
stay slots x (k ∷ ks) h =
    ap₂ (λ (y : Operation) (ys : List Operation). y ∷ ys) (get_or_append_left slots (x ∷ []) in_no_slot k (h 0 0 (omega arith)))
    (stay slots x ks (λ j d l. h (suc j) d (omega (arith, l))))

put_last : (slots : List Operation) (order : List ℕ) (n : ℕ) (x : Operation) → n ≡ length order → n ≡ length slots
    → AreSlots (length slots) order → arranged (slots ++ x ∷ []) (order ++ n ∷ []) (n + 1) ≡ arranged slots order n ++ x ∷ []
put_last slots order n x e f h =
    let old : ℕ → Operation = λ k. get_or slots k in_no_slot in
    let new : ℕ → Operation = λ k. get_or (slots ++ x ∷ []) k in_no_slot in
    let many : n + 1 ≡ length (order ++ n ∷ []) = omega (arith, e, length-append order (n ∷ [])) in
    ap (λ m. map new (take m (order ++ n ∷ []))) many ∙ ap (map new) (take-length (order ++ n ∷ [])) ∙ map-append new order (n ∷ [])
    ∙ ap₂ (λ (ys : List Operation) (y : Operation). ys ++ y ∷ []) (stay slots x order h.0)
    (ap new f ∙ get_or-append_seam slots x [] in_no_slot)
    ∙ ap (λ ks. map old ks ++ x ∷ []) (sym (ap (λ m. take m order) e ∙ take-length order))

pub put_new : (slots more : List Operation) (order longer : List ℕ) (n : ℕ) (x : Operation) → n ≡ length order → n ≡ length slots
    → more ≡ slots ++ x ∷ [] → longer ≡ order ++ n ∷ [] → AreSlots (length slots) order
    → arranged more longer (n + 1) ≡ arranged slots order n ++ x ∷ []
put_new slots more order longer n x e f g k h =
    ap₂ (λ (ys : List Operation) (ks : List ℕ). arranged ys ks (n + 1)) g k ∙ put_last slots order n x e f h

apart_from : (n : ℕ) (ks : List ℕ) → ((k d : ℕ) → k < length ks → get_or ks k d < n) → AllByRecursion (λ k. (n == k) ≡ false) ks
apart_from n [] h = tt
apart_from n (k ∷ ks) h = (differ (h 0 0 (omega arith)), apart_from n ks (λ j d l. h (suc j) d (omega (arith, l))))
  where
    differ : k < n → (n == k) ≡ false
    differ l = go (n == k) refl
      where
        go : (b : Bool) → (n == k) ≡ b → b ≡ false
        go true e = absurd (omega (arith, l, eqb-true n k e))
        go false e = refl

flips : (m n : ℕ) → (m == n) ≡ (n == m)
flips m n = go (m == n) refl
  where
    go : (b : Bool) → (m == n) ≡ b → b ≡ (n == m)
    go true e = sym (eq-eqb n m (sym (eqb-true m n e)))
    go false e = sym (other (n == m) refl)
      where
        other : (b : Bool) → (n == m) ≡ b → b ≡ false
        other true h = sym (eq-eqb m n (sym (eqb-true n m h))) ∙ e
        other false h = refl

first_apart : (n : ℕ) (ks : List ℕ) → AllByRecursion (λ k. (n == k) ≡ false) ks → IsDistinct (λ s t. s == t) ks → IsDistinct
    (λ s t. s == t) (n ∷ ks)
unfolding IsDistinct
first_apart n ks h d = (h, d)

one_more_slot : (order : List ℕ) (n : ℕ) → AreSlots n order → AreSlots (n + 1) (order ++ n ∷ [])
one_more_slot order n h = (
  All-append (λ s. s < n + 1) order (n ∷ []) (λ k d l. omega (arith, h.0 k d l)) (one n),
  IsDistinct-IsPermutation (λ s t. s == t) flips (n ∷ order) (order ++ n ∷ []) (IsPermutation-append_comm (n ∷ []) order)
      (first_apart n order (apart_from n order h.0) h.1),
)
  where
    one : (n : ℕ) → All (λ s. s < n + 1) (n ∷ [])
    one n zero d l = omega arith
    one n (suc k) d l = absurd (omega (arith, l))

pub more_slots : (order longer : List ℕ) (count n m : ℕ) → count ≡ n → m ≡ n + 1 → longer ≡ order ++ n ∷ [] → AreSlots count order
    → AreSlots m longer
more_slots order longer count n m e f g h =
    subst (λ k. AreSlots k longer) (sym f)
    (subst (AreSlots (n + 1)) (sym g) (one_more_slot order n (subst (λ k. AreSlots k order) e h)))

-- ---- one that is taken out: those behind it up to the last move up, and its slot stands behind them

moved_on : (s k : ℕ) (ks : List ℕ) (m : ℕ) → m ≤ length ks → set (take m ks ++ drop m (k ∷ ks)) m s ≡ take m ks ++ s ∷ drop m ks
moved_on s k ks zero l = refl
moved_on s k [] (suc m) l = absurd (omega (arith, l))
moved_on s k (j ∷ ks) (suc m) l = ap (λ js. j ∷ js) (moved_on s j ks m (omega (arith, l)))

moved_up : (ks : List ℕ) (i m n s : ℕ) → n ≡ i + m → suc n ≤ length ks
    → set (take i ks ++ take m (drop (suc i) ks) ++ drop n ks) n s ≡ remove (take (suc n) ks) i ++ s ∷ drop (suc n) ks
moved_up [] i m n s e l = absurd (omega (arith, l))
moved_up (k ∷ ks) zero m n s e l =
    let same : m ≡ n = omega (arith, e) in
    ap (λ j. set (take j ks ++ drop n (k ∷ ks)) n s) same ∙ moved_on s k ks n (omega (arith, l))
moved_up (k ∷ ks) (suc i) m zero s e l = absurd (omega (arith, e))
moved_up (k ∷ ks) (suc i) m (suc n) s e l = ap (λ js. k ∷ js) (moved_up ks i m n s (omega (arith, e)) (omega (arith, l)))

pub moved_back : (ks js : List ℕ) (n i s : ℕ) → i < n → n ≤ length ks → js ≡ set (copy_within ks (i + 1) n i) (n - 1) s
    → js ≡ remove (take n ks) i ++ s ∷ drop n ks
moved_back ks js zero i s l h e = absurd (omega (arith, l))
moved_back ks js (suc n) i s l h e =
    let next : i + 1 ≡ suc i = omega arith in
    let last : suc n - 1 ≡ n = omega arith in
    let seam : i + (suc n - (i + 1)) ≡ n = omega (arith, l) in
    e ∙ ap (λ k. set (copy_within ks (i + 1) (suc n) i) k s) last
    ∙ ap₂ (λ (a b : ℕ). set (take i ks ++ take (suc n - (i + 1)) (drop a ks) ++ drop b ks) n s) next seam
    ∙ moved_up ks i (suc n - (i + 1)) n s (sym seam) (omega (arith, h))

pub taken_out : (slots : List Operation) (order later : List ℕ) (n m i s : ℕ) → n ≡ m + 1 → i < n → n ≤ length order
    → later ≡ remove (take n order) i ++ s ∷ drop n order → arranged slots later m ≡ remove (arranged slots order n) i
taken_out slots order later n m i s e l h r =
    let at : ℕ → Operation = λ k. get_or slots k in_no_slot in
    let long : length (remove (take n order) i) ≡ m =
    omega (arith, e, length-take-le n order h, length-remove (take n order) i (omega (arith, l, length-take-le n order h))) in
    ap (λ ks. map at (take m ks)) r ∙ ap (map at) (take_at (remove (take n order) i) (s ∷ drop n order) m long)
    ∙ one_removed at (take n order) i

pub same_slots : (order later : List ℕ) (count n i s : ℕ) → i < n → n ≤ length order → s ≡ get_or order i s
    → later ≡ remove (take n order) i ++ s ∷ drop n order → AreSlots count order → AreSlots count later
same_slots order later count n i s l m e r h =
    let held : List ℕ = take n order in
    let here : s ≡ get_or held i s = e ∙ sym (get_or-take n order i s l) in
    let front : IsPermutation held (remove held i ++ s ∷ []) =
    IsPermutation-trans held (s ∷ remove held i) (remove held i ++ s ∷ [])
    (IsPermutation-remove held i s (omega (arith, l, length-take-le n order m)) here)
    (IsPermutation-append_comm (s ∷ []) (remove held i)) in
    let whole : IsPermutation (held ++ drop n order) ((remove held i ++ s ∷ []) ++ drop n order) =
    IsPermutation-append_left (drop n order) held (remove held i ++ s ∷ []) front in
    let moved : IsPermutation order later =
    subst (λ ks. IsPermutation order ks) (append_assoc (remove held i) (s ∷ []) (drop n order) ∙ sym r)
    (subst (λ ks. IsPermutation ks ((remove held i ++ s ∷ []) ++ drop n order)) (take-append-drop n order) whole) in (
      All-permutation (λ k. k < count) order later moved h.0,
      IsDistinct-IsPermutation (λ k t. k == t) flips order later moved h.1,
    )

pub no_slots : (count : ℕ) (order : List ℕ) → order ≡ [] → AreSlots count order
unfolding IsDistinct
no_slots count [] e = (λ k d l. absurd (omega (arith, l)), tt)
no_slots count (k ∷ order) e = cc
