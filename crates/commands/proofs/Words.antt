-- Words with one space between are cut in one way, and a number is written in one way.
use Rattle.std.proofs.Common.{◌≡◌, ℕ, ◌^◌, ◌<◌, ◌≤◌, zero, suc, List, [], ◌∷◌, length, drop, get_or, Option, Some, None, Result, Ok, Err}
use Rattle.std.proofs.Common.{refl, sym, ap, subst, ◌∙◌, arith, decimal}
use Rattle.std.specs.Prelude.{IfOk, IfErr, IfNone}
use Rattle.std.specs.Str.Parse.{AllDigits, IsNumeral, digits_value, without_leading_plus, ParsesUnsigned}
use Rattle.std.proofs.lemmas.Bool.{ne_eqb}
use Rattle.std.proofs.lemmas.Fmt.{decimal_is_IsNumeral, decimal-digits_value, decimal_digit, first_decimal, parse-decimal}
use Rattle.std.proofs.lemmas.Str.Parse.{numerals_by_value, tells_digits, digit_from_value}
use Rattle.commands.specs.Script.{spaced}
use Rattle.commands.specs.Internal.Words.{IsWord, IsPlainNumber}

heads : (a b : ℕ) (x y : List ℕ) → a ∷ x ≡ b ∷ y → a ≡ b
heads a b x y e = ap (λ (l : List ℕ). get_or l 0 0) e

tails : (a b : ℕ) (x y : List ℕ) → a ∷ x ≡ b ∷ y → x ≡ y
tails a b x y e = ap (λ (l : List ℕ). drop 1 l) e

-- two ways to cut off a first word are one
pub one_cut : (w v r s : List ℕ) → IsWord w → IsWord v → spaced w r ≡ spaced v s → (w ≡ v) × (r ≡ s)
one_cut [] [] r s h k e = (refl, tails 32 32 r s e)
one_cut [] (b ∷ v) r s h k e = absurd (k.0 (sym (heads 32 b r (spaced v s) e)))
one_cut (a ∷ w) [] r s h k e = absurd (h.0 (heads a 32 (spaced w r) s e))
one_cut (a ∷ w) (b ∷ v) r s h k e =
    let at : a ≡ b = heads a b (spaced w r) (spaced v s) e in
    let more = one_cut w v r s h.1 k.1 (tails a b (spaced w r) (spaced v s) e) in
    (cc, more.1)

empty_differs : (a : ℕ) (x : List ℕ) → [] ≡ a ∷ x → ⊥
empty_differs a x e = cc

-- a word has no first word
pub no_cut : (w v s : List ℕ) → IsWord w → w ≡ spaced v s → ⊥
no_cut [] [] s h e = empty_differs 32 s e
no_cut [] (b ∷ v) s h e = empty_differs b (spaced v s) e
no_cut (a ∷ w) [] s h e = h.0 (heads a 32 w s e)
no_cut (a ∷ w) (b ∷ v) s h e = no_cut w v s h.1 (tails a b w (spaced v s) e)

-- what follows from there being no value follows anyway
pub if_none : {A : Type 0} {P : Type 0} (o : Option A) → P → IfNone o P
if_none None p = p
if_none (Some x) p = tt

-- ---- numbers

digits_are_a_word : (ds : List ℕ) → AllDigits 10 ds → IsWord ds
digits_are_a_word [] d = tt
digits_are_a_word (c ∷ cs) d = (λ e. omega (arith, digit_from_value c d.0), digits_are_a_word cs d.1)

pub decimal_is_a_word : (n : ℕ) → n < 2 ^ 32 → IsWord (decimal n)
decimal_is_a_word n h = digits_are_a_word (decimal n) (decimal_is_IsNumeral n (omega arith)).0.1

first_is_a_digit : (ds : List ℕ) → IsNumeral 10 ds → 48 ≤ get_or ds 0 0
first_is_a_digit [] h = absurd (omega (arith, h.0))
first_is_a_digit (c ∷ cs) h = omega (arith, digit_from_value c h.1.0)

pub decimal_is_plain : (n : ℕ) → n < 2 ^ 32 → IsPlainNumber (decimal n)
decimal_is_plain zero h =
    let e : decimal 0 ≡ 48 ∷ [] = decimal_digit 0 (omega arith) in
    (λ p. omega (arith, p, first_is_a_digit (decimal 0) (decimal_is_IsNumeral 0 (omega arith)).0), λ p. ap length e)
decimal_is_plain (suc n) h =
    let first : 48 < get_or (decimal (suc n)) 0 0 = first_decimal (suc n) (omega arith) (omega arith) in
    (λ p. omega (arith, p, first), λ p. absurd (omega (arith, p, first)))

no_plus : (w : List ℕ) → IsPlainNumber w → without_leading_plus w ≡ w
no_plus w h = rw (ne_eqb (get_or w 0 0) 43 h.0) refl

pub number_read : {E : Type 0} (w : List ℕ) (r : Result ℕ E) → IsPlainNumber w → ParsesUnsigned 32 10 w r → IfOk r (λ n. w ≡ decimal n)
number_read w (Ok n) plain p =
    let whole = no_plus w plain in
    let at : IsNumeral 10 w × (digits_value 10 w < 2 ^ 32) =
    subst (λ (l : List ℕ). IsNumeral 10 l × (digits_value 10 l < 2 ^ 32)) whole p.0 in
    let value : n ≡ digits_value 10 w = p.1 ∙ ap (digits_value 10) whole in
    sym (ap decimal value ∙ decimal-digits_value (numerals_by_value _ tells_digits) w at.0.1 at.0.0 plain.1 (omega (arith, at.1)))
number_read w (Err e) plain p = tt

pub number_not_read : {E : Type 0} (w : List ℕ) (r : Result ℕ E) → ParsesUnsigned 32 10 w r
    → IfErr r (λ e. (n : ℕ) → n < 2 ^ 32 → w ≡ decimal n → ⊥)
number_not_read w (Ok n) p = tt
number_not_read w (Err e) p = λ n fits is. let both = parse-decimal 32 n w (Err e) fits (omega arith) is p in cc
