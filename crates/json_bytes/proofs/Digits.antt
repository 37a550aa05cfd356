-- A number that digits alone write.
use Rattle.std.proofs.Common.{◌≡◌, ℕ, ◌+◌, ◌*◌, ◌<◌, ◌≤◌, ◌^◌, ◌==◌, ◌&&◌, List, [], ◌∷◌, ◌++◌, length, take, get_or, slice_index, Option}
use Rattle.std.proofs.Common.{Some, None, Bool, true, false, refl, sym, ap, ◌∙◌, subst, lt-ltb, arith, ◌-◌, append-nil, eqb-true, lit<}
use Rattle.std.specs.Prelude.{SomeIff, IfSome}
use Rattle.fast_float.specs.Text.{scan, digits_of, IsInteger}
use Rattle.serde_json.specs.Data.{unsigned}
use Rattle.serde_json.specs.Read.{number_of}
use Rattle.std.proofs.lemmas.Bool.{and_parts}
use Rattle.std.proofs.lemmas.Grind.{common_steps}
use Rattle.std.proofs.Math.Nat.{pow-le-pow_right}
use Rattle.std.proofs.lemmas.Int.Digits.{digits_more, digits_value_more, digits_value-lt}
use Rattle.std.proofs.lemmas.Str.{digit_value_digit}
use Rattle.std.specs.Char.{digit_value, is_ascii_digit}
use Rattle.std.specs.Str.Parse.{AllDigits, digits_value}
use Rattle.std.proofs.lemmas.List.{length-take, take_all}
use Rattle.std.specs.List.{prefix_len}
use Rattle.std.specs.Str.{all_ascii_digits}
use Rattle.std.specs.Float.Numeral.{Parts, scan_numeral}

pub whole_number : (s : List ℕ) (r : Option ℕ) → (slice_index s 0 == 45) ≡ false
    → SomeIff r (IsInteger (scan s) × (digits_of (scan s) < 2 ^ 64)) (digits_of (scan s)) → IfSome r (λ n. number_of s ≡ Some (unsigned n))
unfolding number_of
whole_number s None plain h = tt
whole_number s (Some n) plain h =
    rw (plain, lt-ltb _ _ h.0.0.0, h.0.0.1, h.0.0.2, lt-ltb _ _ h.0.1) (ap (λ x. Some (unsigned x)) (sym h.1))

pub all_prefix : (s : List ℕ) → all_ascii_digits s ≡ true → prefix_len is_ascii_digit s ≡ length s
all_prefix [] h = refl
all_prefix (c ∷ s) h =
    let here = and_parts (is_ascii_digit c) (all_ascii_digits s) h in
    rw here.0 (omega (arith, all_prefix s here.1))

beyond : (s : List ℕ) → get_or s (length s) 0 ≡ 0
beyond s = grind (arith, common_steps)

abbrev whole_text : List ℕ → Parts
whole_text s = record { whole = s; point = false; fraction = []; exponent_negative = false; exponent = []; len = length s }

scanned : (s : List ℕ) → all_ascii_digits s ≡ true → scan_numeral s ≡ whole_text s
unfolding scan_numeral
scanned s h =
    let all : 0 + prefix_len is_ascii_digit s ≡ length s = omega (arith, all_prefix s h) in
    let front : take (length s - 0) s ≡ s = take_all (length s - 0) s (omega arith) in
    rw all (rw (beyond s) (rw front (rw (beyond s) refl)))

not_minus : (s : List ℕ) → all_ascii_digits s ≡ true → 0 < length s → (slice_index s 0 == 45) ≡ false
not_minus [] h some = absurd (omega (arith, some))
not_minus (c ∷ s) h some = go (c == 45) refl
  where
    go : (t : Bool) → (c == 45) ≡ t → t ≡ false
    go true e =
        let no : is_ascii_digit 45 && all_ascii_digits s ≡ true =
        subst (λ d. is_ascii_digit d && all_ascii_digits s ≡ true) (eqb-true c 45 e) h in
        cc
    go false e = refl

pub digits_number : (s : List ℕ) (n : ℕ) → all_ascii_digits s ≡ true → 0 < length s → n < 2 ^ 64 → n ≡ digits_value 10 s
    → number_of s ≡ Some (unsigned n)
digits_number s n h some few is =
    let e : scan_numeral s ≡ whole_text s = scanned s h in
    let value : n ≡ digits_value 10 (s ++ []) = is ∙ ap (digits_value 10) (sym (append-nil s)) in
    whole_number s (Some n) (not_minus s h some)
    (subst (λ (p : Parts). (IsInteger p × (digits_of p < 2 ^ 64)) × (n ≡ digits_of p)) (sym e)
    (((some, refl, refl), subst (λ m. m < 2 ^ 64) value few), value))

-- ---- digits one after another

pub digit_more : (s : List ℕ) (count n digit : ℕ) → count < length s → 48 ≤ get_or s count 0 → get_or s count 0 ≤ 57
    → digit ≡ get_or s count 0 - 48 → AllDigits 10 (take count s) → n ≡ digits_value 10 (take count s)
    → AllDigits 10 (take (count + 1) s) × (n * 10 + digit ≡ digits_value 10 (take (count + 1) s))
digit_more s count n digit within low high read all is =
    let value : digit_value (get_or s count 0) ≡ digit = omega (arith, digit_value_digit (get_or s count 0) (low, high), read) in (
      digits_more 10 s count within all (omega (arith, value, read, high)),
      omega (arith, digits_value_more 10 s count within, is, value),
    )

pub few : (s : List ℕ) (count most n : ℕ) → count ≤ most → AllDigits 10 (take count s) → n ≡ digits_value 10 (take count s) → n < 10 ^ most
few s count most n order all is =
    let size : length (take count s) ≤ most = omega (arith, length-take count s, order) in
    let grows : 10 ^ length (take count s) ≤ 10 ^ most = pow-le-pow_right (lit< tt) size in
    omega (arith, is, digits_value-lt 10 (take count s) all, grows)
