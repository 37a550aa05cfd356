-- Which token comes first of bytes that write a number of a few digits.
use Rattle.std.proofs.Common.{◌+◌, take, drop, slice_index}
use Rattle.std.proofs.Common.{option_and_then, length-drop, get_or}
use Rattle.std.proofs.lemmas.List.{drop-drop, drop_all, take-append-drop, get_or-drop}
use Rattle.std.proofs.Common.{◌≡◌, ℕ, suc, ◌<◌, ◌≤◌, List, [], ◌∷◌, ◌++◌, Bool, true, false, ◌==◌, length}
use Rattle.std.proofs.Common.{refl, sym, ap, ◌∙◌, subst, arith, eqb-true, Some}
use Rattle.json.specs.Token.{number}
use Rattle.json.specs.Word.{ends_word, after_number, after_whole, after_fraction, after_exponent}
use Rattle.std.specs.Char.{is_ascii_digit}
use Rattle.std.specs.Str.{all_ascii_digits}
use Rattle.std.specs.Str.Parse.{AllDigits, digits_value}
use Rattle.std.proofs.Common.{◌^◌}
use Rattle.std.proofs.lemmas.Str.Parse.{numerals_by_value, tells_all_ascii_digits}
use Rattle.std.proofs.lemmas.List.{get_or-take, length-take-le}
use Rattle.json_bytes.proofs.Digits.{all_prefix, digits_number, few}
use Rattle.json.specs.Print.{IsNumber}
use Rattle.json.specs.Lex.{Place, after_value}
use Rattle.json.specs.Lex.{may_begin}
use Rattle.std.proofs.lemmas.Bool.{and_parts, ne_eqb}
use Rattle.json_bytes.proofs.Plainly.{number_first}
use Rattle.json_bytes.specs.Internal.Places.{tokens_behind, WritesNumber}

is_other_than : (c d : ℕ) (s : List ℕ) → all_ascii_digits (c ∷ s) ≡ true → is_ascii_digit d ≡ false → (c == d) ≡ false
is_other_than c d s h e = go (c == d) refl
  where
    go : (t : Bool) → (c == d) ≡ t → t ≡ false
    go true is =
        let here = and_parts (is_ascii_digit c) (all_ascii_digits s) h in
        let same : is_ascii_digit d ≡ true = subst (λ x. is_ascii_digit x ≡ true) (eqb-true c d is) here.0 in
        cc
    go false is = refl

whole_passed : (c : ℕ) (s : List ℕ) (t : Bool) → (c == 48) ≡ t → all_ascii_digits (c ∷ s) ≡ true → (t ≡ true → s ≡ [])
    → after_whole (c ∷ s) ≡ Some []
whole_passed c s true e h alone = rw e (ap Some (alone refl))
whole_passed c s false e h alone =
    rw e (rw (all_prefix (c ∷ s) h) (rw (ne_eqb (suc (length s)) 0 (λ z. omega arith)) (ap Some (drop_all (length s) s (omega arith)))))

only_zero : (c : ℕ) (s : List ℕ) → (1 < length (c ∷ s) → (c == 48) ≡ false) → (c == 48) ≡ true → s ≡ []
only_zero c [] first e = refl
only_zero c (d ∷ s) first e = let other : (c == 48) ≡ false = first (omega arith) in cc

pub digits_alone : (s : List ℕ) → all_ascii_digits s ≡ true → 0 < length s → (1 < length s → (slice_index s 0 == 48) ≡ false) → IsNumber s
unfolding after_number
digits_alone [] h some first = absurd (omega (arith, some))
digits_alone (c ∷ s) h some first =
    rw (is_other_than c 45 s h refl)
    (ap (λ o. option_and_then after_exponent (option_and_then after_fraction o))
    (whole_passed c s (c == 48) refl h (only_zero c s first)))

pub number_passed : (bytes : List ℕ) (at count : ℕ) → IsNumber (take count (drop at bytes)) → ends_word (drop (at + count) bytes) ≡ true
    → (p : Place) → may_begin p ≡ true
    → tokens_behind p (drop at bytes) ≡ number (take count (drop at bytes)) ∷ tokens_behind after_value (drop (at + count) bytes)
number_passed bytes at count is ended p h =
    let s : List ℕ = take count (drop at bytes) in
    let behind : drop count (drop at bytes) ≡ drop (at + count) bytes = drop-drop count at bytes ∙ ap (λ n. drop n bytes) (omega arith) in
    let split : drop at bytes ≡ s ++ drop (at + count) bytes = sym (take-append-drop count (drop at bytes)) ∙ ap (λ r. s ++ r) behind in
    ap (tokens_behind p) split ∙ number_first p s (drop (at + count) bytes) h is ended

pub number_written : (bytes : List ℕ) (at count n : ℕ) → at + count ≤ length bytes → 0 < count → count ≤ 9
    → AllDigits 10 (take count (drop at bytes)) → n ≡ digits_value 10 (take count (drop at bytes))
    → (1 < count → (slice_index bytes at == 48) ≡ false) → ends_word (drop (at + count) bytes) ≡ true
    → WritesNumber bytes at n (at + count)
number_written bytes at count n within some most all is first ended =
    let s : List ℕ = take count (drop at bytes) in
    let size : length s ≡ count = length-take-le count (drop at bytes) (omega (arith, length-drop at bytes, within)) in
    let ascii = (numerals_by_value (λ ds. all_ascii_digits ds ≡ true) tells_all_ascii_digits).from s all in
    let small : n < 10 ^ 9 = few (drop at bytes) count 9 n most all is in
    let here : slice_index s 0 ≡ slice_index bytes at =
    get_or-take count (drop at bytes) 0 0 some ∙ get_or-drop at bytes 0 0 ∙ ap (λ k. get_or bytes k 0) (omega arith) in
    record {
      text = s;
      first =
          number_passed bytes at count (digits_alone s ascii (omega (arith, size, some))
          (λ long. ap (λ x. x == 48) here ∙ first (omega (arith, size, long)))) ended;
      value = digits_number s n ascii (omega (arith, size, some)) (omega (arith, small)) is;
      small = omega (arith, small);
      within = within;
    }
