-- Asked operations are lawful after the log, and asked insertions stand at their place.
use Rattle.std.proofs.Common.{◌≡◌, ℕ, ◌+◌, ◌-◌, ◌<◌, ◌≤◌, zero, suc, Bool, true, false, not, Option, Some, None, List, [], ◌∷◌, ◌++◌}
use Rattle.std.proofs.Common.{length, sum, map, take, drop, refl, ap, ◌∙◌, sym, subst, arith, inl, inr, take-append-drop}
use Rattle.std.specs.Prelude.{slice_get, option_map, if◌then◌else◌, ◌==◌}
use Rattle.std.specs.List.{AllByRecursion as Each, list_any}
use Rattle.std.proofs.lemmas.Bool.{both_ways, or_cases, or_left, or_right}
use Rattle.std.proofs.lemmas.Bool.Decides.{nat_tests}
use Rattle.std.proofs.lemmas.List.Folds.{list_any-append}
use Rattle.opid.specs.declared.stamp.Stamp.{Stamp}
use Rattle.opid.specs.declared.kind.OpKind.{OpKind}
use Rattle.opid.specs.declared.kind.OpKind.TheVariants.{Ins, Del}
use Rattle.opid.specs.Stamps.{is_before, is_same}
use Rattle.opid.specs.Clocks.{raised}
use Rattle.opid.specs.Operations.{Operation, Insertion, stamp_at, stamp_of, inserted_by, insertions, has_element, is_deleted}
use Rattle.opid.specs.Delivery.{clock_of}
use Rattle.opid.specs.Tree.{all}
use Rattle.opid.specs.Reading.{visible_at}
use Rattle.opid.specs.Lawful.{IsAllowed, MayFollow, GoesOn, IsLawful, IsSound}
use Rattle.opid.specs.Asked.{parent_at, insertion_run, deletion_run, asked_insertions, asked_deletions}
use Rattle.opid.proofs.Order.{is_same-eq, is_same-refl}
use Rattle.opid.proofs.Walk.{Each-filter, Each-weaker}
use Rattle.opid.proofs.Rising.{HasParent}
use Rattle.opid.proofs.Sound.{op_at, element_at, insertions-append, insertions-push, has_element-push, list_any-all}
use Rattle.opid.proofs.Logs.{IsLawful-push, IsLawful-take, GoesOn-append, IsSound-lawful}
use Rattle.opid.proofs.Counts.{length-clock_of, clock_of-push, length-raised, sum-raised, sum-clock_of, is_next-raised, sums_within}

-- ---- lawful after the log

-- an element's sum is that of an operation
pub has_element-sum : (n : ℕ) (xs : List Operation) (s : Stamp) → Each (λ y. sum y.clock ≤ n) xs → has_element xs s ≡ true → s.sum ≤ n
has_element-sum n [] s b h = cc
has_element-sum n (x ∷ xs) s b h = elim (or_cases _ _ (sym (list_any-append (λ (z : Insertion). is_same s z.stamp)
    (inserted_by (stamp_of x) x.kind) (insertions xs)) ∙ h)) [
      | inl q ↦ here x.kind q
      | inr q ↦ has_element-sum n xs s b.1 q
    ]
  where
    here : (k : OpKind) → list_any (λ z. is_same s z.stamp) (inserted_by (stamp_of x) k) ≡ true → s.sum ≤ n
    here (Ins o c) q = elim (or_cases (is_same s (stamp_of x)) false q) [
      | inl e ↦ (let sums : s.sum ≡ sum x.clock = ap (λ (t : Stamp). t.sum) (is_same-eq s (stamp_of x) e) in omega (arith, b.0, sums))
      | inr e ↦ absurd (both_ways false refl e)
    ]
    here (Del d) q = cc

-- a site's next operation may follow, if what it does is allowed
pub next_may_follow : (log : List Operation) (site : ℕ) (k : OpKind) → IsLawful log → site < 32
    → IsAllowed log (stamp_at site (raised (clock_of log) site)) k
    → MayFollow log (op_at site (raised (clock_of log) site) k)
next_may_follow log site k l b a =
    let inside : site < length (clock_of log) = omega (arith, b, length-clock_of log) in
    let above : sum (raised (clock_of log) site) ≡ length log + 1 =
    sum-raised (clock_of log) site inside ∙ ap (λ n. n + 1) (sum-clock_of log l) in
    record {
      site = b;
      width = length-raised (clock_of log) site ∙ length-clock_of log;
      ready = is_next-raised site (clock_of log) inside;
      rising = Each-weaker (λ (y : Operation). sum y.clock ≤ length log)
          (λ y. y.site ≡ site → sum y.clock < sum (raised (clock_of log) site)) (λ y h e. omega (arith, h, above)) log (sums_within log l);
      allowed = a;
    }

pub smaller : (p : Stamp) (n i : ℕ) → p.sum < n → is_before p (record { sum = n; site = i }) ≡ true
smaller p n i h = grind (arith, nat_tests)

pub next_sum : (log : List Operation) (site : ℕ) → IsLawful log → site < 32 → sum (raised (clock_of log) site) ≡ length log + 1
next_sum log site l b = sum-raised (clock_of log) site (omega (arith, b, length-clock_of log)) ∙ ap (λ n. n + 1) (sum-clock_of log l)

pub before_next : (log : List Operation) (site : ℕ) (p : Stamp) → IsLawful log → site < 32 → has_element log p ≡ true
    → is_before p (stamp_at site (raised (clock_of log) site)) ≡ true
before_next log site p l b h =
    let within : p.sum ≤ length log = has_element-sum (length log) log p (sums_within log l) h in
    let next : sum (raised (clock_of log) site) ≡ length log + 1 = next_sum log site l b in
    smaller p (sum (raised (clock_of log) site)) site (omega (arith, within, next))

-- an insertion's own element is there
pub has_element-new : (ops : List Operation) (x : Operation) (o : Option Stamp) (c : ℕ)
    → has_element (ops ++ op_at x.site x.clock (Ins o c) ∷ []) (stamp_of x) ≡ true
has_element-new ops x o c =
    ap (list_any (λ (z : Insertion). is_same (stamp_of x) z.stamp)) (insertions-push ops (op_at x.site x.clock (Ins o c)))
    ∙ list_any-append (λ (z : Insertion). is_same (stamp_of x) z.stamp) (insertions ops) (element_at (stamp_of x) o c ∷ [])
    ∙ or_right (has_element ops (stamp_of x)) _ (or_left _ _ (is_same-refl (stamp_of x)))

pub insertions_go_on : (log : List Operation) (site : ℕ) (o : Option Stamp) (chars : List ℕ) → IsLawful log → site < 32
    → HasParent (insertions log) o
    → GoesOn log (insertion_run site (clock_of log) o chars)
insertions_go_on log site o [] l b h = tt
insertions_go_on log site o (ch ∷ chars) l b h = (
  m,
  subst (λ w. GoesOn (log ++ x ∷ []) (insertion_run site w (Some (stamp_of x)) chars)) (clock_of-push log x b)
      (insertions_go_on (log ++ x ∷ []) site (Some (stamp_of x)) chars (IsLawful-push log x l m) b there),
)
  where
    x : Operation
    x = op_at site (raised (clock_of log) site) (Ins o ch)

    allowed : (o : Option Stamp) → HasParent (insertions log) o → IsAllowed log (stamp_at site (raised (clock_of log) site)) (Ins o ch)
    allowed None h = tt
    allowed (Some p) h = (h, before_next log site p l b h)

    m : MayFollow log (op_at site (raised (clock_of log) site) (Ins o ch))
    m = next_may_follow log site (Ins o ch) l b (allowed o h)

    there : has_element (log ++ op_at site (raised (clock_of log) site) (Ins o ch) ∷ []) (stamp_at site (raised (clock_of log) site)) ≡ true
    there = has_element-new log (op_at site (raised (clock_of log) site) (Ins o ch)) o ch

pub deletions_go_on : (log : List Operation) (site : ℕ) (ts : List Stamp) → IsLawful log → site < 32
    → Each (λ t. has_element log t ≡ true) ts
    → GoesOn log (deletion_run site (clock_of log) ts)
deletions_go_on log site [] l b h = tt
deletions_go_on log site (t ∷ ts) l b h = (
  m,
  subst (λ w. GoesOn (log ++ x ∷ []) (deletion_run site w ts)) (clock_of-push log x b)
      (deletions_go_on (log ++ x ∷ []) site ts (IsLawful-push log x l m) b
      (Each-weaker (λ u. has_element log u ≡ true) (λ u. has_element (log ++ x ∷ []) u ≡ true) (λ u k. has_element-push log x u k) ts h.1)),
)
  where
    x : Operation
    x = op_at site (raised (clock_of log) site) (Del t)

    m : MayFollow log (op_at site (raised (clock_of log) site) (Del t))
    m = next_may_follow log site (Del t) l b h.0

pub Each-some : {X : Type 0} (P : X → Type 0) (xs : List X) (i : ℕ) (x : X) → Each P xs → slice_get xs i ≡ Some x → P x
Each-some P [] i x h e = cc
Each-some P (y ∷ ys) zero x h e = let same : y ≡ x = cc in subst P same h.0
Each-some P (y ∷ ys) (suc i) x h e = Each-some P ys i x h.1 e

pub Each-member : (l : List Insertion) → Each (λ y. list_any (λ z. is_same y.stamp z.stamp) l ≡ true) l
Each-member [] = tt
Each-member (x ∷ xs) = (
  or_left _ _ (is_same-refl x.stamp),
  Each-weaker (λ (y : Insertion). list_any (λ z. is_same y.stamp z.stamp) xs ≡ true)
      (λ y. list_any (λ z. is_same y.stamp z.stamp) (x ∷ xs) ≡ true) (λ y h. or_right (is_same y.stamp x.stamp) _ h) xs (Each-member xs),
)

-- each of the elements in the one order is an element
pub all-elements : (ops : List Operation) → IsSound ops → Each (λ y. has_element ops y.stamp ≡ true) (all ops)
all-elements ops h =
    Each-weaker (λ (y : Insertion). list_any (λ z. is_same y.stamp z.stamp) (all ops) ≡ true) (λ y. has_element ops y.stamp ≡ true)
    (λ y m. sym (list_any-all ops h y.stamp) ∙ m) (all ops) (Each-member (all ops))

-- an element of a version is one of the log
has_element-take : (log : List Operation) (v : ℕ) (s : Stamp) → has_element (take v log) s ≡ true → has_element log s ≡ true
has_element-take log v s h =
    ap (λ r. has_element r s) (sym (take-append-drop v log))
    ∙ ap (list_any (λ (z : Insertion). is_same s z.stamp)) (insertions-append (take v log) (drop v log))
    ∙ list_any-append (λ (z : Insertion). is_same s z.stamp) (insertions (take v log)) (insertions (drop v log))
    ∙ or_left _ _ h

-- the visible elements of a version are elements of it
version_elements : (log : List Operation) (v : ℕ) → IsLawful log → Each (λ y. has_element (take v log) y.stamp ≡ true) (visible_at log v)
version_elements log v l =
    Each-filter (λ (y : Insertion). has_element (take v log) y.stamp ≡ true) (λ y. not (is_deleted (take v log) y.stamp)) (all (take v log))
    (all-elements (take v log) (IsSound-lawful (take v log) (IsLawful-take log v l)))

-- the parent that is asked for is the head or an element of the version
pub parent_at-has_version : (log : List Operation) (v k : ℕ) → IsLawful log → HasParent (insertions (take v log)) (parent_at log v k)
parent_at-has_version log v k l = go (k == 0) (slice_get (visible_at log v) (k - 1)) refl
  where
    go : (t : Bool) (e : Option Insertion) → slice_get (visible_at log v) (k - 1) ≡ e
        → HasParent (insertions (take v log)) (if t then None else option_map (λ (x : Insertion). x.stamp) e)
    go true e h = tt
    go false None h = tt
    go false (Some x) h = Each-some (λ y. has_element (take v log) y.stamp ≡ true) (visible_at log v) (k - 1) x (version_elements log v l) h

pub HasParent-take : (log : List Operation) (v : ℕ) (o : Option Stamp) → HasParent (insertions (take v log)) o
    → HasParent (insertions log) o
HasParent-take log v None h = tt
HasParent-take log v (Some p) h = has_element-take log v p h

-- what is asked for is lawful after the log
pub asked_insertions-lawful : (log : List Operation) (site v k : ℕ) (chars : List ℕ) → IsLawful log → site < 32
    → IsLawful (log ++ asked_insertions log site v k chars)
asked_insertions-lawful log site v k chars l b = GoesOn-append [] log (asked_insertions log site v k chars) l
    (insertions_go_on log site (parent_at log v k) chars l b (HasParent-take log v (parent_at log v k) (parent_at-has_version log v k l)))

Each-map : {X Y : Type 0} (P : Y → Type 0) (f : X → Y) (xs : List X) → Each (λ x. P (f x)) xs → Each P (map f xs)
Each-map P f [] h = tt
Each-map P f (x ∷ xs) h = (h.0, Each-map P f xs h.1)

pub Each-take : {X : Type 0} (P : X → Type 0) (n : ℕ) (xs : List X) → Each P xs → Each P (take n xs)
Each-take P zero [] h = tt
Each-take P zero (x ∷ xs) h = tt
Each-take P (suc n) [] h = tt
Each-take P (suc n) (x ∷ xs) h = (h.0, Each-take P n xs h.1)

Each-drop : {X : Type 0} (P : X → Type 0) (n : ℕ) (xs : List X) → Each P xs → Each P (drop n xs)
Each-drop P zero [] h = tt
Each-drop P zero (x ∷ xs) h = h
Each-drop P (suc n) [] h = tt
Each-drop P (suc n) (x ∷ xs) h = Each-drop P n xs h.1

pub asked_deletions-lawful : (log : List Operation) (site v k c : ℕ) → IsLawful log → site < 32
    → IsLawful (log ++ asked_deletions log site v k c)
asked_deletions-lawful log site v k c l b =
    GoesOn-append [] log (asked_deletions log site v k c) l
    (deletions_go_on log site (map (λ (x : Insertion). x.stamp) (take c (drop k (visible_at log v)))) l b
    (Each-map (λ t. has_element log t ≡ true) (λ (x : Insertion). x.stamp) (take c (drop k (visible_at log v)))
    (Each-take (λ (y : Insertion). has_element log y.stamp ≡ true) c (drop k (visible_at log v))
    (Each-drop (λ (y : Insertion). has_element log y.stamp ≡ true) k (visible_at log v)
    (Each-weaker (λ (y : Insertion). has_element (take v log) y.stamp ≡ true) (λ y. has_element log y.stamp ≡ true)
    (λ y h. has_element-take log v y.stamp h) (visible_at log v) (version_elements log v l))))))
