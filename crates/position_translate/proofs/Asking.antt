-- What is asked for, gathered one operation after another.
use Rattle.std.proofs.Common.{◌≡◌, ℕ, ◌+◌, ◌-◌, ◌<◌, ◌≤◌, Bool, true, false, not, ◌||◌, Option, Some, None, List}
use Rattle.std.proofs.Common.{[], ◌∷◌, ◌++◌, length, sum, map, take, drop}
use Rattle.std.proofs.Common.{get_or, refl, ap, ap₂, ◌∙◌, sym, subst, arith, append_assoc}
use Rattle.std.specs.Prelude.{nat_lt, slice_get, option_map}
use Rattle.std.specs.Option.{option_map_or}
use Rattle.std.specs.Char.Utf16.{is_low_surrogate}
use Rattle.std.proofs.lemmas.Bool.{cond-true, cond-false, or_parts}
use Rattle.std.proofs.lemmas.Bool.Decides.{nat_tests}
use Rattle.std.proofs.lemmas.List.{append-nil, drop_all, length-drop, length-map, length-take-le, length_push}
use Rattle.std.proofs.lemmas.Option.{slice_get_read}
use Rattle.std.proofs.Math.Seq.{get_or-append_seam}
use Rattle.opid.specs.declared.stamp.Stamp.{Stamp}
use Rattle.opid.specs.declared.kind.OpKind.TheVariants.{Ins, Del}
use Rattle.opid.specs.Clocks.{raised}
use Rattle.opid.specs.Operations.{Operation, Insertion, stamp_at, stamp_of}
use Rattle.opid.specs.Delivery.{clock_of}
use Rattle.opid.specs.Lawful.{IsLawful}
use Rattle.opid.specs.Reading.{visible_in_at, reading_in_at}
use Rattle.opid.specs.Splice.{is_inside}
use Rattle.opid.specs.Asked.{parent_in_at, insertion_run, deletion_run, each_once, asked_insertions_in, asked_deletions_in, IsPlaced_in}
use Rattle.opid.proofs.Counts.{sum-clock_of}
use Rattle.opid.proofs.Counted.{asked_insertions_in-lawful, asked_insertions_in-placed, asked_deletions_in-lawful}
use Rattle.opid.proofs.Placing.{get-within}
use Rattle.opid.specs.Places.{is_bad_place, element_count}
use Rattle.position_translate.proofs.Insides.{is_second}
use Rattle.opid.proofs.Gathered.{rest_at, take_none, between_at}

-- the clock of the last of these, or where there is none the one before them
abbrev pub known : List ℕ → List Operation → List ℕ
known before ops = option_map_or (λ op. op.clock) (slice_get ops (length ops - 1)) before

pub known_pushed : (before : List ℕ) (made : List Operation) (op : Operation) → known before (made ++ op ∷ []) ≡ op.clock
known_pushed before made op =
    let all : List Operation = made ++ op ∷ [] in
    let last : length all - 1 ≡ length made = omega (arith, length_push made op) in
    ap (λ (o : Option Operation). option_map_or (λ x. x.clock) o before)
    (slice_get_read all (length all) (length all - 1) op refl (omega (arith, length_push made op))
    (sym (ap (λ (i : ℕ). get_or all i op) last ∙ get_or-append_seam made op [] op)))

-- ---- insertions: what was made so far, and the run of the rest

pub insertion_more : (site : ℕ) (made : List Operation) (before clock : List ℕ) (parent parent' : Option Stamp) (cs : List ℕ) (n c : ℕ)
    (op : Operation) (whole : List Operation)
    → n < length cs → c ≡ get_or cs n c → clock ≡ known before made
    → op ≡ record { site = site; clock = raised clock site; kind = Ins parent c } → parent' ≡ Some (stamp_of op)
    → made ++ insertion_run site (known before made) parent (drop n cs) ≡ whole
    → (made ++ op ∷ []) ++ insertion_run site (known before (made ++ op ∷ [])) parent' (drop (n + 1) cs) ≡ whole
insertion_more site made before clock parent parent' cs n c op whole h at knows is names so_far =
    append_assoc made (op ∷ []) (insertion_run site clock' parent' (drop (n + 1) cs))
    ∙ ap (λ (xs : List Operation). made ++ xs) (sym one)
    ∙ ap (λ (k : List ℕ). made ++ insertion_run site k parent (drop n cs)) knows
    ∙ so_far
  where
    next : Operation
    next = record { site = site; clock = raised clock site; kind = Ins parent c }

    clock' : List ℕ
    clock' = known before (made ++ op ∷ [])

    counts : clock' ≡ op.clock
    counts = known_pushed before made op

    behind : insertion_run site clock' parent' (drop (n + 1) cs)
        ≡ insertion_run site (raised clock site) (Some (stamp_of next)) (drop (n + 1) cs)
    behind = ap₂ (λ (w : List ℕ) (p : Option Stamp). insertion_run site w p (drop (n + 1) cs)) (counts ∙ ap (λ (x : Operation). x.clock) is)
        (names ∙ ap (λ (x : Operation). Some (stamp_of x)) is)

    one : insertion_run site clock parent (drop n cs) ≡ op ∷ insertion_run site clock' parent' (drop (n + 1) cs)
    one = ap (insertion_run site clock parent) (rest_at cs n c h at)
        ∙ ap₂ (λ (x : Operation) (xs : List Operation). x ∷ xs) (sym is) (sym behind)

pub insertion_all : (site : ℕ) (made : List Operation) (clock : List ℕ) (parent : Option Stamp) (cs : List ℕ) (n : ℕ)
    (whole : List Operation)
    → length cs ≤ n → made ++ insertion_run site clock parent (drop n cs) ≡ whole → made ≡ whole
insertion_all site made clock parent cs n whole h so_far =
    sym (append-nil made) ∙ ap (λ (xs : List ℕ). made ++ insertion_run site clock parent xs) (sym (drop_all n cs h)) ∙ so_far

-- ---- deletions

-- the elements at the places from `first` to before `end`, each once
abbrev pub once : Bool → List Insertion → ℕ → ℕ → List Insertion
once u xs first end = each_once u (take (end - first) (drop first xs))

-- their stamps
abbrev pub stamps : Bool → List Insertion → ℕ → ℕ → List Stamp
stamps u xs first end = map (λ x. x.stamp) (once u xs first end)

-- a place with the second of a pair adds no element, any other adds its own
pub once_more : (u : Bool) (xs : List Insertion) (p end : ℕ) (x : Insertion) → p < end → slice_get xs p ≡ Some x
    → is_second u xs p ≡ false → once u xs p end ≡ x ∷ once u xs (p + 1) end
once_more false xs p end x h q s = between_at xs p end x h q
once_more true xs p end x h q s =
    ap (each_once true) (between_at xs p end x h q)
    ∙ cond-true _ _ _ (ap not (sym (ap (λ (o : Option Insertion). option_map_or (λ (y : Insertion). is_low_surrogate y.ch) o false) q) ∙ s))

pub once_same : (u : Bool) (xs : List Insertion) (p end : ℕ) → p < end → p < length xs → is_second u xs p ≡ true
    → once u xs p end ≡ once u xs (p + 1) end
once_same false xs p end h w s = cc
once_same true xs p end h w s =
    let e : (x : Insertion) × (slice_get xs p ≡ Some x) = get-within xs p w in
    ap (each_once true) (between_at xs p end e.0 h e.1)
    ∙ cond-false _ _ _ (ap not
    (sym (ap (λ (o : Option Insertion). option_map_or (λ (y : Insertion). is_low_surrogate y.ch) o false) e.1) ∙ s))

stamp_there : (xs : List Insertion) (p : ℕ) (t : Stamp) → Some t ≡ option_map (λ x. x.stamp) (slice_get xs p)
    → (x : Insertion) × (slice_get xs p ≡ Some x) × (x.stamp ≡ t)
stamp_there xs p t e = go (slice_get xs p) refl e
  where
    same : (a b : Stamp) → Some a ≡ Some b → b ≡ a
    same a b h = cc

    go : (o : Option Insertion) → slice_get xs p ≡ o → Some t ≡ option_map (λ x. x.stamp) o
        → (x : Insertion) × (slice_get xs p ≡ Some x) × (x.stamp ≡ t)
    go None q h = absurd (none h)
      where
        none : Some t ≡ None → ⊥
        none r = cc
    go (Some x) q h = (x, q, same t x.stamp h)

stamps_at : (u : Bool) (xs : List Insertion) (p end : ℕ) (t : Stamp) → p < end → Some t ≡ option_map (λ x. x.stamp) (slice_get xs p)
    → is_second u xs p ≡ false → stamps u xs p end ≡ t ∷ stamps u xs (p + 1) end
stamps_at u xs p end t h e s =
    let x : (x : Insertion) × (slice_get xs p ≡ Some x) × (x.stamp ≡ t) = stamp_there xs p t e in
    ap (map (λ (y : Insertion). y.stamp)) (once_more u xs p end x.0 h x.1 s) ∙ ap (λ r. r ∷ stamps u xs (p + 1) end) x.2

pub deletion_more : (site : ℕ) (made : List Operation) (before clock : List ℕ) (u : Bool) (xs : List Insertion) (p end : ℕ) (t : Stamp)
    (op : Operation) (whole : List Operation)
    → p < end → Some t ≡ option_map (λ x. x.stamp) (slice_get xs p) → is_second u xs p ≡ false
    → clock ≡ known before made → op ≡ record { site = site; clock = raised clock site; kind = Del t }
    → made ++ deletion_run site (known before made) (stamps u xs p end) ≡ whole
    → (made ++ op ∷ []) ++ deletion_run site (known before (made ++ op ∷ [])) (stamps u xs (p + 1) end) ≡ whole
deletion_more site made before clock u xs p end t op whole h at first knows is so_far =
    append_assoc made (op ∷ []) (deletion_run site clock' (stamps u xs (p + 1) end))
    ∙ ap (λ (os : List Operation). made ++ os) (sym one)
    ∙ ap (λ (k : List ℕ). made ++ deletion_run site k (stamps u xs p end)) knows
    ∙ so_far
  where
    clock' : List ℕ
    clock' = known before (made ++ op ∷ [])

    counts : clock' ≡ op.clock
    counts = known_pushed before made op

    behind : deletion_run site clock' (stamps u xs (p + 1) end) ≡ deletion_run site (raised clock site) (stamps u xs (p + 1) end)
    behind = ap (λ (w : List ℕ). deletion_run site w (stamps u xs (p + 1) end)) (counts ∙ ap (λ (x : Operation). x.clock) is)

    one : deletion_run site clock (stamps u xs p end) ≡ op ∷ deletion_run site clock' (stamps u xs (p + 1) end)
    one = ap (deletion_run site clock) (stamps_at u xs p end t h at first)
        ∙ ap₂ (λ (x : Operation) (os : List Operation). x ∷ os) (sym is) (sym behind)

pub deletion_same : (site : ℕ) (made : List Operation) (clock : List ℕ) (u : Bool) (xs : List Insertion) (p end : ℕ)
    (whole : List Operation)
    → p < end → p < length xs → is_second u xs p ≡ true → made ++ deletion_run site clock (stamps u xs p end) ≡ whole
    → made ++ deletion_run site clock (stamps u xs (p + 1) end) ≡ whole
deletion_same site made clock u xs p end whole h w s so_far =
    ap (λ (ys : List Insertion). made ++ deletion_run site clock (map (λ x. x.stamp) ys)) (sym (once_same u xs p end h w s)) ∙ so_far

-- how many are still to come
pub fewer : (u : Bool) (xs : List Insertion) (p end : ℕ) → p < end → p < length xs → is_second u xs p ≡ false
    → length (once u xs p end) ≡ length (once u xs (p + 1) end) + 1
fewer u xs p end h w s =
    let e : (x : Insertion) × (slice_get xs p ≡ Some x) = get-within xs p w in
    omega (arith, ap length (once_more u xs p end e.0 h e.1 s))

pub as_many : (u : Bool) (xs : List Insertion) (p end : ℕ) → p < end → p < length xs → is_second u xs p ≡ true
    → length (once u xs p end) ≡ length (once u xs (p + 1) end)
as_many u xs p end h w s = ap length (once_same u xs p end h w s)

-- none stand at no places
pub once_none : (u : Bool) (xs : List Insertion) (p end : ℕ) → end ≤ p → once u xs p end ≡ []
once_none u xs p end h = ap (each_once u) (take_none (drop p xs) (end - p) (omega (arith, h))) ∙ go u
  where
    go : (u : Bool) → each_once u [] ≡ []
    go false = refl
    go true = refl

pub deletion_all : (site : ℕ) (made : List Operation) (clock : List ℕ) (u : Bool) (xs : List Insertion) (p end : ℕ) (whole : List Operation)
    → end ≤ p → made ++ deletion_run site clock (stamps u xs p end) ≡ whole → made ≡ whole
deletion_all site made clock u xs p end whole h so_far =
    sym (append-nil made)
    ∙ ap (λ (ys : List Insertion). made ++ deletion_run site clock (map (λ x. x.stamp) ys)) (sym (once_none u xs p end h))
    ∙ so_far

length-insertion_run : (site : ℕ) (clock : List ℕ) (parent : Option Stamp) (cs : List ℕ)
    → length (insertion_run site clock parent cs) ≡ length cs
length-insertion_run site clock parent [] = refl
length-insertion_run site clock parent (c ∷ cs) =
    omega (arith, length-insertion_run site (raised clock site) (Some (stamp_at site (raised clock site))) cs)

length-deletion_run : (site : ℕ) (clock : List ℕ) (ts : List Stamp) → length (deletion_run site clock ts) ≡ length ts
length-deletion_run site clock [] = refl
length-deletion_run site clock (t ∷ ts) = omega (arith, length-deletion_run site (raised clock site) ts)

-- ---- what the calls answer, when all checks have passed

pub few_for : (log : List Operation) (clock : List ℕ) (n : ℕ) → IsLawful log → clock ≡ clock_of log → length log + n ≤ 131072
    → sum clock + n ≤ 131072
few_for log clock n l e h = omega (arith, ap sum e, sum-clock_of log l, h)

pub asked_deletions-is : (u : Bool) (log ops : List Operation) (clock : List ℕ) (site v k c : ℕ) → clock ≡ clock_of log
    → is_inside u (reading_in_at u log v) k ≡ false → is_inside u (reading_in_at u log v) (k + c) ≡ false
    → ops ≡ deletion_run site clock (stamps u (visible_in_at u log v) k (k + c)) → ops ≡ asked_deletions_in u log site v k c
asked_deletions-is u log ops clock site v k c e p q is =
    is ∙ ap₂ (λ (w : List ℕ) (n : ℕ).
    deletion_run site w (map (λ (x : Insertion). x.stamp) (each_once u (take n (drop k (visible_in_at u log v)))))) e
    (omega arith)
    ∙ sym (cond-false _ _ _ (ap₂ (λ (x y : Bool). x || y) p q))

-- a place that is not bad is between characters, and within
pub outside_pairs : (u : Bool) (log : List Operation) (v k : ℕ) → is_bad_place u log v k ≡ false
    → is_inside u (reading_in_at u log v) k ≡ false
outside_pairs u log v k h = (or_parts (is_inside u (reading_in_at u log v) k) (nat_lt (length (visible_in_at u log v)) k) h).0

pub within : (u : Bool) (log : List Operation) (v k : ℕ) → is_bad_place u log v k ≡ false → k ≤ length (visible_in_at u log v)
within u log v k h =
    let e : nat_lt (length (visible_in_at u log v)) k ≡ false =
    (or_parts (is_inside u (reading_in_at u log v) k) (nat_lt (length (visible_in_at u log v)) k) h).1 in
    grind (arith, nat_tests)

pub asked_insertions-is : (u : Bool) (log ops : List Operation) (clock : List ℕ) (site v k : ℕ) (parent : Option Stamp) (cs : List ℕ)
    → clock ≡ clock_of log → is_bad_place u log v k ≡ false → parent ≡ parent_in_at u log v k
    → ops ≡ insertion_run site clock parent cs → ops ≡ asked_insertions_in u log site v k cs
asked_insertions-is u log ops clock site v k parent cs e h p is =
    is ∙ ap₂ (λ (w : List ℕ) (o : Option Stamp). insertion_run site w o cs) e p ∙ sym (cond-false _ _ _ (outside_pairs u log v k h))

pub insertions_lawful : (u : Bool) (log ops : List Operation) (site v k : ℕ) (cs : List ℕ) → IsLawful log → site < 32
    → is_bad_place u log v k ≡ false → ops ≡ asked_insertions_in u log site v k cs → IsLawful (log ++ ops)
insertions_lawful u log ops site v k cs l b h e =
    subst (λ xs. IsLawful (log ++ xs)) (sym e) (asked_insertions_in-lawful u log site v k cs l b (within u log v k h))

pub insertions_placed : (u : Bool) (log ops : List Operation) (site v k : ℕ) (cs : List ℕ) → IsLawful log → site < 32
    → is_bad_place u log v k ≡ false → ops ≡ asked_insertions_in u log site v k cs → IsPlaced_in u log v k ops
insertions_placed u log ops site v k cs l b h e =
    subst (IsPlaced_in u log v k) (sym e) (asked_insertions_in-placed u log site v k cs l b (within u log v k h)
    (outside_pairs u log v k h))

pub deletions_lawful : (u : Bool) (log ops : List Operation) (site v k c : ℕ) → IsLawful log → site < 32
    → k + c ≤ length (visible_in_at u log v)
    → is_inside u (reading_in_at u log v) k ≡ false → is_inside u (reading_in_at u log v) (k + c) ≡ false
    → ops ≡ asked_deletions_in u log site v k c → IsLawful (log ++ ops)
deletions_lawful u log ops site v k c l b h p q e =
    subst (λ xs. IsLawful (log ++ xs)) (sym e) (asked_deletions_in-lawful u log site v k c l b h p q)

-- one for each character
pub length-asked_insertions : (u : Bool) (log ops : List Operation) (site v k : ℕ) (cs : List ℕ) → is_bad_place u log v k ≡ false
    → ops ≡ asked_insertions_in u log site v k cs → length ops ≡ length cs
length-asked_insertions u log ops site v k cs h e =
    ap length (e ∙ cond-false _ _ _ (outside_pairs u log v k h)) ∙ length-insertion_run site (clock_of log) (parent_in_at u log v k) cs

-- one for each element that stands within
pub length-once : (u : Bool) (log : List Operation) (v k c : ℕ) → k + c ≤ length (visible_in_at u log v)
    → length (once u (visible_in_at u log v) k (k + c)) ≡ element_count u log v k c
length-once true log v k c h = ap (λ n. length (each_once true (take n (drop k (visible_in_at true log v))))) (omega arith)
length-once false log v k c h =
    ap (λ n. length (take n (drop k (visible_in_at false log v)))) (omega arith)
    ∙ length-take-le c (drop k (visible_in_at false log v)) (omega (arith, h, length-drop k (visible_in_at false log v)))

pub length-asked_deletions : (u : Bool) (log ops : List Operation) (clock : List ℕ) (site v k c : ℕ)
    → k + c ≤ length (visible_in_at u log v)
    → ops ≡ deletion_run site clock (stamps u (visible_in_at u log v) k (k + c)) → length ops ≡ element_count u log v k c
length-asked_deletions u log ops clock site v k c h e =
    ap length e
    ∙ length-deletion_run site clock (stamps u (visible_in_at u log v) k (k + c))
    ∙ length-map (once u (visible_in_at u log v) k (k + c)) (λ (x : Insertion). x.stamp)
    ∙ length-once u log v k c h
