-- The places between characters, and the elements before them.
use Rattle.std.proofs.Common.{◌≡◌, ℕ, zero, suc, ◌+◌, ◌-◌, ◌<◌, ◌≤◌, Bool, true, false, inl, inr, Some, List, [], ◌∷◌, ◌++◌, map, length}
use Rattle.std.proofs.Common.{take}
use Rattle.std.proofs.Common.{drop, refl, ap, ◌∙◌, sym, arith, take-append-drop}
use Rattle.std.specs.Prelude.{slice_get, option_map}
use Rattle.std.proofs.lemmas.Bool.{both_ways, cases_lt}
use Rattle.std.proofs.lemmas.List.{length-append, length-map, length-take-le, length-drop, take-map, take_at, drop_at, append-nil}
use Rattle.std.proofs.Math.Seq.{take-add}
use Rattle.opid.specs.Operations.{Insertion}
use Rattle.opid.specs.Units.{units_of, text_in, parts_of, items_in}
use Rattle.opid.specs.Splice.{is_inside}
use Rattle.opid.proofs.Gathered.{take_none}
use Rattle.opid.proofs.Units.{Shape, shape, units-some, text_in-append, get_behind, is_inside-seam, items_in-append, length-text_in}

-- ---- of a text

-- a place that isn't inside a pair stands behind so many characters
abbrev pub Found : Bool → List ℕ → ℕ → Type 0
Found u chars k = (j : ℕ) × (j ≤ length chars) × (k ≡ length (text_in u (take j chars)))

found_step : (c : ℕ) (cs : List ℕ) (k : ℕ)
    → ((i : ℕ) → i ≤ length (text_in true cs) → is_inside true (text_in true cs) i ≡ false → Found true cs i)
    → suc k ≤ length (text_in true (c ∷ cs)) → is_inside true (text_in true (c ∷ cs)) (suc k) ≡ false → Shape (units_of c)
    → Found true (c ∷ cs) (suc k)
found_step c cs k ih h n (inl s) =
    let same : text_in true (c ∷ cs) ≡ s.0 ∷ text_in true cs = ap (λ (us : List ℕ). us ++ text_in true cs) s.1 in
    let r : Found true cs k = ih k (omega (arith, h, ap length same)) (sym (ap (λ t. is_inside true t (suc k)) same) ∙ n) in (
      suc r.0,
      omega (arith, r.1),
      omega (arith, r.2, ap (λ (us : List ℕ). length (us ++ text_in true (take r.0 cs))) s.1),
    )
found_step c cs zero ih h n (inr s) = absurd (both_ways _ n (ap (λ (us : List ℕ). is_inside true (us ++ text_in true cs) 1) s.2 ∙ s.4))
found_step c cs (suc k) ih h n (inr s) =
    let same : text_in true (c ∷ cs) ≡ s.0 ∷ s.1 ∷ text_in true cs = ap (λ (us : List ℕ). us ++ text_in true cs) s.2 in
    let r : Found true cs k = ih k (omega (arith, h, ap length same)) (sym (ap (λ t. is_inside true t (suc (suc k))) same) ∙ n) in (
      suc r.0,
      omega (arith, r.1),
      omega (arith, r.2, ap (λ (us : List ℕ). length (us ++ text_in true (take r.0 cs))) s.2),
    )

found_units : (chars : List ℕ) (k : ℕ) → k ≤ length (text_in true chars) → is_inside true (text_in true chars) k ≡ false
    → Found true chars k
found_units [] k h n = (0, omega arith, omega (arith, h))
found_units (c ∷ cs) zero h n = (0, omega arith, refl)
found_units (c ∷ cs) (suc k) h n = found_step c cs k (found_units cs) h n (shape c)

pub found : (u : Bool) (chars : List ℕ) (k : ℕ) → k ≤ length (text_in u chars) → is_inside u (text_in u chars) k ≡ false → Found u chars k
found false chars k h n = (k, h, sym (length-take-le k chars h))
found true chars k h n = found_units chars k h n

-- and behind no other number of them
apart : (chars : List ℕ) (i j : ℕ) → i ≤ length chars → j ≤ length chars
    → length (text_in true (take i chars)) ≡ length (text_in true (take j chars)) → i ≡ j
apart [] i j h k e = omega (arith, h, k)
apart (c ∷ cs) zero zero h k e = refl
apart (c ∷ cs) zero (suc j) h k e = absurd (omega (arith, e, units-some c, length-append (units_of c) (text_in true (take j cs))))
apart (c ∷ cs) (suc i) zero h k e = absurd (omega (arith, e, units-some c, length-append (units_of c) (text_in true (take i cs))))
apart (c ∷ cs) (suc i) (suc j) h k e =
    ap suc (apart cs i j (omega (arith, h)) (omega (arith, k))
    (omega (arith, e, length-append (units_of c) (text_in true (take i cs)), length-append (units_of c) (text_in true (take j cs)))))

pub found_once : (u : Bool) (chars : List ℕ) (i j : ℕ) → i ≤ length chars → j ≤ length chars
    → length (text_in u (take i chars)) ≡ length (text_in u (take j chars)) → i ≡ j
found_once false chars i j h k e = sym (length-take-le i chars h) ∙ e ∙ length-take-le j chars k
found_once true chars i j h k e = apart chars i j h k e

-- each place between characters is one
pub not_inside : (u : Bool) (chars : List ℕ) (j : ℕ) → is_inside u (text_in u chars) (length (text_in u (take j chars))) ≡ false
not_inside u chars j =
    ap (λ t. is_inside u t (length (text_in u (take j chars))))
    (ap (text_in u) (sym (take-append-drop j chars)) ∙ text_in-append u (take j chars) (drop j chars))
    ∙ is_inside-seam u (text_in u (take j chars)) (drop j chars) (length (text_in u (take j chars))) refl

-- ---- of elements

-- a place stands behind so many elements
abbrev pub Behind : Bool → List Insertion → ℕ → ℕ → Type 0
Behind u xs k j = (j ≤ length xs) × (k ≡ length (items_in u (take j xs)))

pub found_elements : (u : Bool) (xs : List Insertion) (k : ℕ) → k ≤ length (items_in u xs)
    → is_inside u (text_in u (map (λ x. x.ch) xs)) k ≡ false → (j : ℕ) × Behind u xs k j
found_elements u xs k h n =
    let r : Found u (map (λ (x : Insertion). x.ch) xs) k =
    found u (map (λ (x : Insertion). x.ch) xs) k (omega (arith, h, length-text_in u xs)) n in (
      r.0,
      (
        omega (arith, r.1, length-map xs (λ (x : Insertion). x.ch)),
        r.2 ∙ ap (λ t. length (text_in u t)) (take-map (λ (x : Insertion). x.ch) r.0 xs) ∙ length-text_in u (take r.0 xs),
      ),
    )

parted : (u : Bool) (xs : List Insertion) (j : ℕ) → items_in u xs ≡ items_in u (take j xs) ++ items_in u (drop j xs)
parted u xs j = ap (items_in u) (sym (take-append-drop j xs)) ∙ items_in-append u (take j xs) (drop j xs)

pub take-items : (u : Bool) (xs : List Insertion) (k j : ℕ) → Behind u xs k j → take k (items_in u xs) ≡ items_in u (take j xs)
take-items u xs k j b = ap (take k) (parted u xs j) ∙ take_at (items_in u (take j xs)) (items_in u (drop j xs)) k (sym b.1)

pub drop-items : (u : Bool) (xs : List Insertion) (k j : ℕ) → Behind u xs k j → drop k (items_in u xs) ≡ items_in u (drop j xs)
drop-items u xs k j b = ap (drop k) (parted u xs j) ∙ drop_at (items_in u (take j xs)) (items_in u (drop j xs)) k (sym b.1)

length-parts : (x : Insertion) → length (parts_of x) ≡ length (units_of x.ch)
length-parts x = length-map (units_of x.ch) (λ n. record x { ch = n })

at_least : (u : Bool) (xs : List Insertion) → length xs ≤ length (items_in u xs)
at_least false xs = omega arith
at_least true [] = omega arith
at_least true (x ∷ xs) = omega (arith, at_least true xs, units-some x.ch, length-parts x, length-append (parts_of x) (items_in true xs))

-- a place that isn't before another stands behind no fewer elements
pub in_order : (u : Bool) (xs : List Insertion) (k l i j : ℕ) → k ≤ l → Behind u xs k i → Behind u xs l j → i ≤ j
in_order u xs k l i j h b d = elim (cases_lt j i) [
  | inl less ↦ (
      let whole : take i xs ≡ take j xs ++ take (i - j) (drop j xs) = ap (λ n. take n xs) (omega (arith, less)) ∙ take-add j (i - j) xs in
      let size : length (take (i - j) (drop j xs)) ≡ i - j =
      length-take-le (i - j) (drop j xs) (omega (arith, less, b.0, length-drop j xs)) in
      omega (
        arith,
        h,
        less,
        b.1,
        d.1,
        size,
        at_least u (take (i - j) (drop j xs)),
        ap (λ ys. length (items_in u ys)) whole,
        ap length (items_in-append u (take j xs) (take (i - j) (drop j xs))),
        length-append (items_in u (take j xs)) (items_in u (take (i - j) (drop j xs))),
      ))
  | inr rest ↦ rest
]

-- ---- the element before a place

get_part : (x : Insertion) (us : List ℕ) (more : List Insertion) (k : ℕ) → k < length us
    → option_map (λ y. y.stamp) (slice_get (map (λ n. record x { ch = n }) us ++ more) k) ≡ Some x.stamp
get_part x [] more k h = absurd (omega (arith, h))
get_part x (n ∷ us) more zero h = refl
get_part x (n ∷ us) more (suc k) h = get_part x us more k (omega (arith, h))

pub items-some : (xs : List Insertion) (i : ℕ) → i < length xs → 0 < length (items_in true (take (suc i) xs))
items-some [] i h = absurd (omega (arith, h))
items-some (x ∷ xs) i h = omega (arith, units-some x.ch, length-parts x, length-append (parts_of x) (items_in true (take i xs)))

pub last_stamp : (xs : List Insertion) (i k : ℕ) → i < length xs → suc k ≡ length (items_in true (take (suc i) xs))
    → option_map (λ y. y.stamp) (slice_get (items_in true xs) k) ≡ option_map (λ y. y.stamp) (slice_get xs i)
last_stamp [] i k h e = absurd (omega (arith, h))
last_stamp (x ∷ xs) zero k h e =
    let own : suc k ≡ length (parts_of x) =
    e ∙ ap (λ (ys : List Insertion). length (parts_of x ++ items_in true ys)) (take_none xs 0 refl) ∙ ap length (append-nil (parts_of x)) in
    get_part x (units_of x.ch) (items_in true xs) k (omega (arith, own, length-parts x))
last_stamp (x ∷ xs) (suc i) k h e =
    let more : 0 < length (items_in true (take (suc i) xs)) = items-some xs i (omega (arith, h)) in
    let size : suc k ≡ length (parts_of x) + length (items_in true (take (suc i) xs)) =
    e ∙ length-append (parts_of x) (items_in true (take (suc i) xs)) in
    ap (option_map (λ (y : Insertion). y.stamp))
    (get_behind (parts_of x) (items_in true xs) k (k - length (parts_of x)) (omega (arith, more, size)))
    ∙ last_stamp xs i (k - length (parts_of x)) (omega (arith, h)) (omega (arith, more, size))
