-- What is asked for at places as they are counted: it is what is asked for at the places of characters there.
use Rattle.std.proofs.Common.{◌≡◌, ℕ, zero, suc, ◌+◌, ◌-◌, ◌<◌, ◌≤◌, Bool, true, false, not, ◌||◌, inl, inr, List, [], ◌∷◌, ◌++◌, map}
use Rattle.std.proofs.Common.{length}
use Rattle.std.proofs.Common.{take, drop, refl, ap, ap₂, ◌∙◌, sym, subst, arith, eqb-true}
use Rattle.std.specs.Prelude.{slice_get, option_map, ◌==◌}
use Rattle.std.specs.Char.Utf16.{is_low_surrogate}
use Rattle.std.proofs.lemmas.Bool.{cond-true, cond-false, false_from_ne_true}
use Rattle.std.proofs.lemmas.List.{length-append, length-take-le, length-drop, append-nil}
use Rattle.std.proofs.Math.Seq.{take-add}
use Rattle.std.proofs.lemmas.List.Elements.{filter-append}
use Rattle.opid.specs.declared.stamp.Stamp.{Stamp}
use Rattle.opid.specs.Operations.{Operation, Insertion, insertions}
use Rattle.opid.specs.Delivery.{clock_of}
use Rattle.opid.specs.Units.{units_of, parts_of, items_in}
use Rattle.opid.specs.Reading.{visible, visible_at, visible_in, visible_in_at, reading_in, reading_in_at}
use Rattle.opid.specs.Splice.{is_inside}
use Rattle.opid.specs.Lawful.{IsLawful}
use Rattle.opid.specs.Asked.{insertion_run, deletion_run, parent_in_at, parent_at, each_once, asked_insertions_in, asked_insertions}
use Rattle.opid.specs.Asked.{asked_deletions_in, asked_deletions, IsPlaced_in, IsPlaced}
use Rattle.opid.proofs.Gathered.{take_none}
use Rattle.opid.proofs.Runs.{asked_insertions-lawful, asked_deletions-lawful}
use Rattle.opid.proofs.Placing.{asked_insertions-placed}
use Rattle.opid.proofs.Units.{Shape, shape, items_in-append, text_in-items}
use Rattle.opid.proofs.Boundaries.{Behind, found_elements, take-items, drop-items, in_order, items-some, last_stamp}

pub parent_at-found : (u : Bool) (log : List Operation) (v k j : ℕ) → Behind u (visible_at log v) k j
    → parent_in_at u log v k ≡ parent_at log v j
parent_at-found false log v k j b = ap (parent_at log v) (b.1 ∙ length-take-le j (visible_at log v) b.0)
parent_at-found true log v k zero b =
    ap (parent_in_at true log v) (b.1 ∙ ap (λ xs. length (items_in true xs)) (take_none (visible_at log v) 0 refl))
parent_at-found true log v zero (suc i) b = absurd (omega (arith, b.1, items-some (visible_at log v) i b.0))
parent_at-found true log v (suc k) (suc i) b =
    cond-false (suc k == 0) _ _ (false_from_ne_true (suc k == 0) (λ e. omega (arith, eqb-true (suc k) 0 e)))
    ∙ ap (λ (n : ℕ). option_map (λ (x : Insertion). x.stamp) (slice_get (visible_in_at true log v) n)) (omega arith)
    ∙ last_stamp (visible_at log v) i k b.0 b.1
    ∙ sym (cond-false (suc i == 0) _ _ (false_from_ne_true (suc i == 0) (λ e. omega (arith, eqb-true (suc i) 0 e)))
    ∙ ap (λ (n : ℕ). option_map (λ (x : Insertion). x.stamp) (slice_get (visible_at log v) n)) (omega arith))

pub asked_insertions-found : (u : Bool) (log : List Operation) (site v k j : ℕ) (chars : List ℕ)
    → is_inside u (reading_in_at u log v) k ≡ false → Behind u (visible_at log v) k j
    → asked_insertions_in u log site v k chars ≡ asked_insertions log site v j chars
asked_insertions-found u log site v k j chars n b =
    cond-false _ _ _ n ∙ ap (λ p. insertion_run site (clock_of log) p chars) (parent_at-found u log v k j b)

-- what is placed is placed however it is counted
placed_in : (u : Bool) (log : List Operation) (v k j : ℕ) (xs : List Operation) → Behind u (visible_at log v) k j → IsPlaced log v j xs
    → IsPlaced_in u log v k xs
placed_in u log v k j xs b p =
    ap (items_in u) p
    ∙ items_in-append u (take j (visible_at log v) ++ insertions xs) (drop j (visible_at log v))
    ∙ ap (λ r. r ++ items_in u (drop j (visible_at log v))) (items_in-append u (take j (visible_at log v)) (insertions xs))
    ∙ ap₂ (λ (f : List Insertion) (r : List Insertion). f ++ items_in u (insertions xs) ++ r)
    (sym (take-items u (visible_at log v) k j b)) (sym (drop-items u (visible_at log v) k j b))

pub asked_insertions_in-placed : (u : Bool) (log : List Operation) (site v k : ℕ) (chars : List ℕ) → IsLawful log → site < 32
    → k ≤ length (visible_in_at u log v) → is_inside u (reading_in_at u log v) k ≡ false
    → IsPlaced_in u log v k (asked_insertions_in u log site v k chars)
asked_insertions_in-placed u log site v k chars l b h n =
    let r : (j : ℕ) × Behind u (visible_at log v) k j = found_elements u (visible_at log v) k h n in
    subst (IsPlaced_in u log v k) (sym (asked_insertions-found u log site v k r.0 chars n r.1))
    (placed_in u log v k r.0 (asked_insertions log site v r.0 chars) r.1 (asked_insertions-placed log site v r.0 chars l b r.1.0))

pub asked_insertions_in-lawful : (u : Bool) (log : List Operation) (site v k : ℕ) (chars : List ℕ) → IsLawful log → site < 32
    → k ≤ length (visible_in_at u log v)
    → IsLawful (log ++ asked_insertions_in u log site v k chars)
asked_insertions_in-lawful u log site v k chars l b h = go (is_inside u (reading_in_at u log v) k) refl
  where
    go : (t : Bool) → is_inside u (reading_in_at u log v) k ≡ t → IsLawful (log ++ asked_insertions_in u log site v k chars)
    go true e = subst (λ (xs : List Operation). IsLawful (log ++ xs)) (sym (cond-true _ _ _ e)) (subst IsLawful (sym (append-nil log)) l)
    go false e =
        let r : (j : ℕ) × Behind u (visible_at log v) k j = found_elements u (visible_at log v) k h e in
        subst (λ (xs : List Operation). IsLawful (log ++ xs)) (sym (asked_insertions-found u log site v k r.0 chars e r.1))
        (asked_insertions-lawful log site v r.0 chars l b)

-- each element of a part is named once
once-part : (xs : List Insertion) → map (λ x. x.stamp) (each_once true (items_in true xs)) ≡ map (λ x. x.stamp) xs
once-part [] = refl
once-part (x ∷ xs) =
    ap (map (λ (y : Insertion). y.stamp)) (filter-append (λ y. not (is_low_surrogate y.ch)) (parts_of x) (items_in true xs)
    ∙ ap (λ (ys : List Insertion). ys ++ each_once true (items_in true xs)) (own (shape x.ch)).1)
    ∙ ap₂ (λ (s : Stamp) (r : List Stamp). s ∷ r) (own (shape x.ch)).2 (once-part xs)
  where
    own : Shape (units_of x.ch) → (y : Insertion) × (each_once true (parts_of x) ≡ y ∷ []) × (y.stamp ≡ x.stamp)
    own (inl s) = (
      record x { ch = s.0 },
      ap (λ (us : List ℕ). each_once true (map (λ n. record x { ch = n }) us)) s.1 ∙ cond-true _ _ _ (ap not s.2),
      refl,
    )
    own (inr s) = (
      record x { ch = s.0 },
      ap (λ (us : List ℕ). each_once true (map (λ n. record x { ch = n }) us)) s.2 ∙ cond-true _ _ _ (ap not s.3)
          ∙ ap (λ (ys : List Insertion). record x { ch = s.0 } ∷ ys) (cond-false _ _ _ (ap not s.4)),
      refl,
    )

once : (u : Bool) (xs : List Insertion) → map (λ x. x.stamp) (each_once u (items_in u xs)) ≡ map (λ x. x.stamp) xs
once false xs = refl
once true xs = once-part xs

pub asked_deletions-found : (u : Bool) (log : List Operation) (site v k c i n : ℕ) → is_inside u (reading_in_at u log v) k ≡ false
    → is_inside u (reading_in_at u log v) (k + c) ≡ false
    → Behind u (visible_at log v) k i → Behind u (visible_at log v) (k + c) (i + n)
    → asked_deletions_in u log site v k c ≡ asked_deletions log site v i n
asked_deletions-found u log site v k c i n p q b d =
    cond-false _ _ _ (ap₂ (λ (x y : Bool). x || y) p q)
    ∙ ap (λ ts. deletion_run site (clock_of log) ts)
    (ap (λ xs. map (λ (x : Insertion). x.stamp) (each_once u (take c xs))) (drop-items u (visible_at log v) k i b)
    ∙ ap (λ xs. map (λ (x : Insertion). x.stamp) (each_once u xs)) (take-items u (drop i (visible_at log v)) c n (
      omega (arith, d.0, b.0, length-drop i (visible_at log v)),
      size,
    ))
    ∙ once u (take n (drop i (visible_at log v))))
  where
    whole : items_in u (take (i + n) (visible_at log v))
        ≡ items_in u (take i (visible_at log v)) ++ items_in u (take n (drop i (visible_at log v)))
    whole = ap (items_in u) (take-add i n (visible_at log v))
        ∙ items_in-append u (take i (visible_at log v)) (take n (drop i (visible_at log v)))

    size : c ≡ length (items_in u (take n (drop i (visible_at log v))))
    size = omega (
      arith,
      b.1,
      d.1,
      ap length whole,
      length-append (items_in u (take i (visible_at log v))) (items_in u (take n (drop i (visible_at log v)))),
    )

-- what a range names is what lies in it
pub asked_deletions_in-range : (u : Bool) (log : List Operation) (site v k c : ℕ) → k + c ≤ length (visible_in_at u log v)
    → is_inside u (reading_in_at u log v) k ≡ false → is_inside u (reading_in_at u log v) (k + c) ≡ false
    → (i : ℕ) × (n : ℕ) × Behind u (visible_at log v) k i × Behind u (visible_at log v) (k + c) (i + n)
    × (asked_deletions_in u log site v k c ≡ asked_deletions log site v i n)
asked_deletions_in-range u log site v k c h p q =
    let b : (i : ℕ) × Behind u (visible_at log v) k i = found_elements u (visible_at log v) k (omega (arith, h)) p in
    let d : (j : ℕ) × Behind u (visible_at log v) (k + c) j = found_elements u (visible_at log v) (k + c) h q in
    let le : b.0 ≤ d.0 = in_order u (visible_at log v) k (k + c) b.0 d.0 (omega arith) b.1 d.1 in
    let e : Behind u (visible_at log v) (k + c) (b.0 + (d.0 - b.0)) =
    subst (Behind u (visible_at log v) (k + c)) (omega (arith, le)) d.1 in (
      b.0,
      d.0 - b.0,
      b.1,
      e,
      asked_deletions-found u log site v k c b.0 (d.0 - b.0) p q b.1 e,
    )

pub asked_deletions_in-lawful : (u : Bool) (log : List Operation) (site v k c : ℕ) → IsLawful log → site < 32
    → k + c ≤ length (visible_in_at u log v)
    → is_inside u (reading_in_at u log v) k ≡ false → is_inside u (reading_in_at u log v) (k + c) ≡ false
    → IsLawful (log ++ asked_deletions_in u log site v k c)
asked_deletions_in-lawful u log site v k c l b h p q =
    let r = asked_deletions_in-range u log site v k c h p q in
    subst (λ (xs : List Operation). IsLawful (log ++ xs)) (sym r.4) (asked_deletions-lawful log site v r.0 r.1 l b)

-- a range that ends inside a pair asks for nothing
pub asked_deletions_in-none : (u : Bool) (log : List Operation) (site v k c : ℕ)
    → (is_inside u (reading_in_at u log v) k || is_inside u (reading_in_at u log v) (k + c)) ≡ true
    → asked_deletions_in u log site v k c ≡ []
asked_deletions_in-none u log site v k c h = cond-true _ _ _ h

pub asked_insertions_in-none : (u : Bool) (log : List Operation) (site v k : ℕ) (chars : List ℕ)
    → is_inside u (reading_in_at u log v) k ≡ true → asked_insertions_in u log site v k chars ≡ []
asked_insertions_in-none u log site v k chars h = cond-true _ _ _ h

-- the characters of what is visible, as they are counted, are the reading
pub reading_in-visible : (u : Bool) (ops : List Operation) → reading_in u ops ≡ map (λ x. x.ch) (visible_in u ops)
reading_in-visible u ops = text_in-items u (visible ops)
