-- Characters and elements as they are counted: a character has one code unit or two, and only the second of two is one.
use Rattle.std.proofs.Common.{◌≡◌, ℕ, zero, suc, ◌+◌, ◌-◌, ◌<◌, ◌/◌, ◌%◌, Bool, true, false, cond, ◌||◌, ◌⊎◌, inl, inr, Option, List, []}
use Rattle.std.proofs.Common.{◌∷◌, ◌++◌, map, length, refl, ap, ap₂, ◌∙◌, sym, arith}
use Rattle.std.specs.Prelude.{slice_get, nat_lt, count_by}
use Rattle.std.specs.Option.{option_map_or}
use Rattle.std.specs.List.{flat_map, list_any}
use Rattle.std.specs.Char.Utf16.{is_low_surrogate}
use Rattle.std.proofs.lemmas.Bool.{cond-true, cond-false, or_parts}
use Rattle.std.proofs.lemmas.Bool.Decides.{nat_tests}
use Rattle.std.proofs.lemmas.List.{length-map, map-append}
use Rattle.std.proofs.lemmas.Grind.{flat_map-append}
use Rattle.std.proofs.lemmas.List.Sums.{sum_by-append}
use Rattle.std.proofs.lemmas.List.Folds.{list_any-append}
use Rattle.opid.specs.declared.stamp.Stamp.{Stamp}
use Rattle.opid.specs.Stamps.{is_same}
use Rattle.opid.specs.Operations.{Insertion}
use Rattle.opid.specs.Units.{is_character, units_of, items_of, text_in, parts_of, items_in}
use Rattle.opid.specs.Splice.{is_inside}

-- ---- a character

-- one unit, or two of which the second tells that it is one
abbrev pub Shape : List ℕ → Type 0
Shape us =
    ((a : ℕ) × (us ≡ a ∷ []) × (is_low_surrogate a ≡ false))
    ⊎ ((a : ℕ) × (b : ℕ) × (us ≡ a ∷ b ∷ []) × (is_low_surrogate a ≡ false) × (is_low_surrogate b ≡ true))

no_second : (c : ℕ) → is_character c ≡ true → is_low_surrogate c ≡ false
no_second c h = grind (arith, nat_tests)

first_of_pair : (q : ℕ) → q < 0x400 → is_low_surrogate (0xD800 + q) ≡ false
first_of_pair q h = grind (arith, nat_tests)

second_of_pair : (r : ℕ) → r < 0x400 → is_low_surrogate (0xDC00 + r) ≡ true
second_of_pair r h = grind (arith, nat_tests)

in_range : (c : ℕ) → is_character c ≡ true → c < 0x110000
in_range c h = grind (arith, nat_tests)

quotient : (n : ℕ) → n < 0x100000 → n / 0x400 < 0x400
quotient n h = omega arith

remainder : (n : ℕ) → n % 0x400 < 0x400
remainder n = omega arith

pub shape : (ch : ℕ) → Shape (units_of ch)
shape ch = go (is_character ch) (nat_lt ch 0x10000) refl
  where
    go : (t u : Bool) → is_character ch ≡ t
        → Shape (cond t (cond u (ch ∷ []) ((0xD800 + (ch - 0x10000) / 0x400) ∷ (0xDC00 + (ch - 0x10000) % 0x400) ∷ [])) (0xFFFD ∷ []))
    go true true h = inl (ch, refl, no_second ch h)
    go true false h =
        let n : ch < 0x110000 = in_range ch h in
        inr (
          0xD800 + (ch - 0x10000) / 0x400,
          0xDC00 + (ch - 0x10000) % 0x400,
          refl,
          first_of_pair ((ch - 0x10000) / 0x400) (quotient (ch - 0x10000) (omega (arith, n))),
          second_of_pair ((ch - 0x10000) % 0x400) (remainder (ch - 0x10000)),
        )
    go false u h = inl (0xFFFD, refl, refl)

pub units-some : (ch : ℕ) → 0 < length (units_of ch)
units-some ch = elim (shape ch) [
  | inl s ↦ omega (arith, ap length s.1)
  | inr s ↦ omega (arith, ap length s.2)
]

-- ---- texts

pub text_in-append : (u : Bool) (a b : List ℕ) → text_in u (a ++ b) ≡ text_in u a ++ text_in u b
text_in-append false a b = refl
text_in-append true a b = flat_map-append units_of a b

pub text_in-cons : (u : Bool) (c : ℕ) (b : List ℕ) → text_in u (c ∷ b) ≡ items_of u c ++ text_in u b
text_in-cons false c b = refl
text_in-cons true c b = refl

-- no text begins inside a pair
begins : (chars : List ℕ) → option_map_or is_low_surrogate (slice_get (flat_map units_of chars) 0) false ≡ false
begins [] = refl
begins (c ∷ cs) = elim (shape c) [
  | inl s ↦ ap (λ (us : List ℕ). option_map_or is_low_surrogate (slice_get (us ++ flat_map units_of cs) 0) false) s.1 ∙ s.2
  | inr s ↦ ap (λ (us : List ℕ). option_map_or is_low_surrogate (slice_get (us ++ flat_map units_of cs) 0) false) s.2 ∙ s.3
]

pub get_behind : {X : Type 0} (a b : List X) (k m : ℕ) → k ≡ length a + m → slice_get (a ++ b) k ≡ slice_get b m
get_behind [] b k m e = ap (slice_get b) (omega (arith, e))
get_behind (x ∷ a) b zero m e = absurd (omega (arith, e))
get_behind (x ∷ a) b (suc k) m e = get_behind a b k m (omega (arith, e))

-- a place between characters isn't inside a pair
pub is_inside-seam : (u : Bool) (a : List ℕ) (chars : List ℕ) (k : ℕ) → k ≡ length a → is_inside u (a ++ text_in u chars) k ≡ false
is_inside-seam false a chars k e = refl
is_inside-seam true a chars k e =
    ap (λ (o : Option ℕ). option_map_or is_low_surrogate o false) (get_behind a (flat_map units_of chars) k 0 (omega (arith, e)))
    ∙ begins chars

-- ---- elements

pub items_in-append : (u : Bool) (a b : List Insertion) → items_in u (a ++ b) ≡ items_in u a ++ items_in u b
items_in-append false a b = refl
items_in-append true a b = flat_map-append parts_of a b

-- the reading of elements as they are counted
pub text_in-items : (u : Bool) (xs : List Insertion) → text_in u (map (λ x. x.ch) xs) ≡ map (λ x. x.ch) (items_in u xs)
text_in-items false xs = refl
text_in-items true [] = refl
text_in-items true (x ∷ xs) =
    ap₂ (λ (a b : List ℕ). a ++ b) (sym (own (units_of x.ch))) (text_in-items true xs)
    ∙ sym (map-append (λ (y : Insertion). y.ch) (parts_of x) (items_in true xs))
  where
    own : (us : List ℕ) → map (λ y. y.ch) (map (λ n. record x { ch = n }) us) ≡ us
    own [] = refl
    own (n ∷ us) = ap (λ r. n ∷ r) (own us)

pub length-text_in : (u : Bool) (xs : List Insertion) → length (text_in u (map (λ x. x.ch) xs)) ≡ length (items_in u xs)
length-text_in u xs = ap length (text_in-items u xs) ∙ length-map (items_in u xs) (λ (x : Insertion). x.ch)

-- what the stamps of elements tell is told by those of their code units
pub list_any-items : (u : Bool) (p : Stamp → Bool) (xs : List Insertion)
    → list_any (λ x. p x.stamp) (items_in u xs) ≡ list_any (λ x. p x.stamp) xs
list_any-items false p xs = refl
list_any-items true p [] = refl
list_any-items true p (x ∷ xs) =
    list_any-append (λ (y : Insertion). p y.stamp) (parts_of x) (items_in true xs)
    ∙ ap₂ (λ (a b : Bool). a || b) (own (shape x.ch)) (list_any-items true p xs)
  where
    twice : (b : Bool) → (b || (b || false)) ≡ b
    twice true = refl
    twice false = refl

    once : (b : Bool) → (b || false) ≡ b
    once true = refl
    once false = refl

    own : Shape (units_of x.ch) → list_any (λ y. p y.stamp) (parts_of x) ≡ p x.stamp
    own (inl s) = ap (λ (us : List ℕ). list_any (λ (y : Insertion). p y.stamp) (map (λ n. record x { ch = n }) us)) s.1 ∙ once (p x.stamp)
    own (inr s) = ap (λ (us : List ℕ). list_any (λ (y : Insertion). p y.stamp) (map (λ n. record x { ch = n }) us)) s.2 ∙ twice (p x.stamp)

-- an element and its code units
pub record Headed (u : Bool) (x : Insertion) (xs : List Insertion) : Type 0 where
  pub rest : List Insertion
  pub head : Insertion
  pub is : items_in u (x ∷ xs) ≡ head ∷ rest
  pub stamp : head.stamp ≡ x.stamp

pub headed : (u : Bool) (x : Insertion) (xs : List Insertion) → Headed u x xs
headed false x xs = record { rest = xs; head = x; is = refl; stamp = refl }
headed true x xs = elim (shape x.ch) [
  | inl s ↦ record {
    rest = items_in true xs;
    head = record x { ch = s.0 };
    is = ap (λ (us : List ℕ). map (λ n. record x { ch = n }) us ++ items_in true xs) s.1;
    stamp = refl;
  }
  | inr s ↦ record {
    rest = record x { ch = s.1 } ∷ items_in true xs;
    head = record x { ch = s.0 };
    is = ap (λ (us : List ℕ). map (λ n. record x { ch = n }) us ++ items_in true xs) s.2;
    stamp = refl;
  }
]

-- ---- how many code units have a stamp

pub count_by-append : {X : Type 0} (p : X → Bool) (xs ys : List X) → count_by p (xs ++ ys) ≡ count_by p xs + count_by p ys
count_by-append p xs ys = sum_by-append (λ x. cond (p x) 1 0) xs ys

count_by-cons : {X : Type 0} (p : X → Bool) (x : X) (xs : List X) → count_by p (x ∷ xs) ≡ cond (p x) 1 0 + count_by p xs
count_by-cons p x xs = sum_by-append (λ y. cond (p y) 1 0) (x ∷ []) xs ∙ omega arith

pub count_by-none : {X : Type 0} (p : X → Bool) (xs : List X) → list_any p xs ≡ false → count_by p xs ≡ 0
count_by-none p [] h = refl
count_by-none p (x ∷ xs) h =
    let parts = or_parts (p x) (list_any p xs) h in
    count_by-cons p x xs ∙ ap₂ (λ (a b : ℕ). a + b) (cond-false (p x) 1 0 parts.0) (count_by-none p xs parts.1)

pub count_by-parts : (t : Stamp) (x : Insertion) (us : List ℕ) → is_same t x.stamp ≡ true
    → count_by (λ y. is_same t y.stamp) (map (λ n. record x { ch = n }) us) ≡ length us
count_by-parts t x [] h = refl
count_by-parts t x (n ∷ us) h =
    count_by-cons (λ (y : Insertion). is_same t y.stamp) (record x { ch = n }) (map (λ n. record x { ch = n }) us)
    ∙ ap₂ (λ (a b : ℕ). a + b) (cond-true (is_same t x.stamp) 1 0 h) (count_by-parts t x us h) ∙ omega arith
