-- The content of a text that is read byte by byte: stretches that stand for themselves, and escapes between them.
use Rattle.std.proofs.Common.{◌≡◌, ℕ, zero, suc, ◌+◌, ◌-◌, ◌*◌, ◌<◌, ◌≤◌, ◌⊎◌, List, [], ◌∷◌, ◌++◌, length, take, drop, get_or}
use Rattle.std.proofs.Common.{slice_index, Option, Some, None, IfSome, true, false, ◌==◌}
use Rattle.std.proofs.Common.{refl, sym, ap, ◌∙◌, subst, arith, append_assoc, append-nil, length-drop}
use Rattle.std.proofs.lemmas.Bool.{and_parts}
use Rattle.std.proofs.lemmas.Bool.Decides.{nat_tests}
use Rattle.std.proofs.lemmas.Grind.{common_steps}
use Rattle.std.proofs.lemmas.List.{drop_more, drop-drop, take-append-drop, get_or-drop}
use Rattle.std.specs.List.{list_all}
use Rattle.std.specs.Char.{encode_utf8, InScalarRange, is_digit, digit_value}
use Rattle.json.specs.Text.{code_unit, content, plain, after_backslash, after_u, after_high, prepend, short_escape, surrogate_pair}
use Rattle.json.specs.Text.{is_high_surrogate, is_low_surrogate}
use Rattle.json.specs.Lex.{between, in_string, in_escape, lex}
use Rattle.json_bytes.specs.Plain.{is_plain}
use Rattle.json_bytes.specs.Internal.Places.{WritesText, WritesUnit, WritesCharacter}
use Rattle.json_bytes.proofs.Plainly.{no_quote, no_backslash, no_control, passed, peeked, split_at}

prepended : (xs ys : List ℕ) (o : Option (List ℕ)) → prepend xs (prepend ys o) ≡ prepend (xs ++ ys) o
prepended xs ys None = refl
prepended xs ys (Some zs) = ap Some (sym (append_assoc xs ys zs))

prepended_none : (o : Option (List ℕ)) → o ≡ prepend [] o
prepended_none None = refl
prepended_none (Some zs) = refl

pub plain_stretch : (s r : List ℕ) → list_all is_plain s ≡ true → content plain (s ++ r) ≡ prepend s (content plain r)
unfolding content
plain_stretch [] r h = prepended_none (content plain r)
plain_stretch (x ∷ s) r h =
    let here = and_parts (is_plain x) (list_all is_plain s) h in
    rw (no_quote x here.0) (rw (no_backslash x here.0) (rw (no_control x here.0)
    (ap (prepend (x ∷ [])) (plain_stretch s r here.1) ∙ prepended (x ∷ []) s (content plain r))))

pub stretch_passed : (s r : List ℕ) → list_all is_plain s ≡ true → lex in_string (s ++ r) ≡ lex in_string r
stretch_passed [] r h = refl
stretch_passed (x ∷ s) r h =
    let here = and_parts (is_plain x) (list_all is_plain s) h in
    passed x (s ++ r) here.0 ∙ stretch_passed s r here.1

pub quote_ends : (r : List ℕ) → (content plain (34 ∷ r) ≡ Some []) × (lex in_string (34 ∷ r) ≡ lex between r)
unfolding content lex
quote_ends r = (refl, refl)

one_more : (xs : List ℕ) (n : ℕ) → n < length xs → list_all is_plain (take n xs) ≡ true → is_plain (get_or xs n 0) ≡ true
    → list_all is_plain (take (suc n) xs) ≡ true
one_more [] n within h e = absurd (omega (arith, within))
one_more (x ∷ xs) zero within h e = rw e refl
one_more (x ∷ xs) (suc n) within h e =
    let here = and_parts (is_plain x) (list_all is_plain (take n xs)) h in
    rw here.0 (one_more xs n (omega (arith, within)) here.1 e)

pub plain_more : (bytes : List ℕ) (at end : ℕ) → at ≤ end → end < length bytes
    → list_all is_plain (take (end - at) (drop at bytes)) ≡ true → is_plain (slice_index bytes end) ≡ true
    → list_all is_plain (take (end + 1 - at) (drop at bytes)) ≡ true
plain_more bytes at end order within h e =
    let size : end - at < length (drop at bytes) = omega (arith, length-drop at bytes, order, within) in
    let here : get_or (drop at bytes) (end - at) 0 ≡ get_or bytes end 0 =
    get_or-drop at bytes (end - at) 0 ∙ ap (λ n. get_or bytes n 0) (omega (arith, order)) in
    let next : end + 1 - at ≡ suc (end - at) = omega (arith, order) in
    subst (λ n. list_all is_plain (take n (drop at bytes)) ≡ true) (sym next)
    (one_more (drop at bytes) (end - at) size h (ap is_plain here ∙ e))

-- ---- escapes

escape_passed : (e : ℕ) (r : List ℕ) → lex in_string (92 ∷ e ∷ r) ≡ lex in_string r
unfolding lex
escape_passed e r = refl

four : (bytes : List ℕ) (at : ℕ) → at + 4 ≤ length bytes
    → drop at bytes ≡ get_or bytes at 0 ∷ get_or bytes (at + 1) 0 ∷ get_or bytes (at + 2) 0 ∷ get_or bytes (at + 3) 0 ∷ drop (at + 4) bytes
four bytes at h =
    let more : (i j : ℕ) → j ≡ i + 1 → i < length bytes → drop i bytes ≡ get_or bytes i 0 ∷ drop j bytes =
    λ i j e l. drop_more bytes i 0 l ∙ ap (λ n. get_or bytes i 0 ∷ drop n bytes) (sym e) in
    more at (at + 1) refl (omega arith) ∙ ap (λ r. get_or bytes at 0 ∷ r) (more (at + 1) (at + 2) (omega arith) (omega arith)
    ∙ ap (λ r. get_or bytes (at + 1) 0 ∷ r) (more (at + 2) (at + 3) (omega arith) (omega arith)
    ∙ ap (λ r. get_or bytes (at + 2) 0 ∷ r) (more (at + 3) (at + 4) (omega arith) (omega arith))))

pub four_plain : (bytes : List ℕ) (at : ℕ) → at + 4 ≤ length bytes → is_plain (get_or bytes at 0) ≡ true
    → is_plain (get_or bytes (at + 1) 0) ≡ true → is_plain (get_or bytes (at + 2) 0) ≡ true → is_plain (get_or bytes (at + 3) 0) ≡ true
    → list_all is_plain (take 4 (drop at bytes)) ≡ true
four_plain bytes at h a b c d = ap (λ r. list_all is_plain (take 4 r)) (four bytes at h) ∙ rw (a, b, c, d) refl

pub unit_spelled : (a b c d p q r s : ℕ) → is_digit a 16 ≡ true → is_digit b 16 ≡ true → is_digit c 16 ≡ true → is_digit d 16 ≡ true
    → p ≡ digit_value a → q ≡ digit_value b → r ≡ digit_value c → s ≡ digit_value d
    → code_unit a b c d ≡ Some (p * 4096 + q * 256 + r * 16 + s)
unfolding code_unit
unit_spelled a b c d p q r s ha hb hc hd ea eb ec ed = rw (ha, hb, hc, hd, ea, eb, ec, ed) refl

unit_passed : (bytes : List ℕ) (at unit : ℕ) → WritesUnit bytes at unit
    → lex in_string (drop at bytes) ≡ lex in_string (drop (at + 4) bytes)
unit_passed bytes at unit w =
    ap (lex in_string) (sym (take-append-drop 4 (drop at bytes)))
    ∙ stretch_passed (take 4 (drop at bytes)) (drop 4 (drop at bytes)) w.plainly
    ∙ ap (lex in_string) (drop-drop 4 at bytes ∙ ap (λ n. drop n bytes) (omega arith))

neither : (unit : ℕ) → (unit < 55296) ⊎ (56320 ≤ unit) → InScalarRange unit
    → (is_high_surrogate unit ≡ false) × (is_low_surrogate unit ≡ false)
neither unit apart in_range = (grind (arith, nat_tests), grind (arith, nat_tests))

halves : (high low : ℕ) → 55296 ≤ high → high < 56320 → 56320 ≤ low → low < 57344
    → (is_high_surrogate high ≡ true) × (is_low_surrogate low ≡ true)
halves high low a b c d = (grind (arith, nat_tests), grind (arith, nat_tests))

pub one_unit : (bytes : List ℕ) (at unit ch : ℕ) → WritesUnit bytes at unit → (unit < 55296) ⊎ (56320 ≤ unit) → InScalarRange unit
    → ch ≡ unit → WritesCharacter after_u in_string bytes at ch (at + 4)
unfolding content
one_unit bytes at unit ch w apart in_range same =
    let last : at + 4 - 1 ≡ at + 3 = omega arith in
    let single = neither unit apart in_range in
    record {
      is = ap (content after_u) (four bytes at w.within) ∙ rw w.is (rw (single.0) (rw (single.1) (rw same refl)));
      passed = unit_passed bytes at unit w;
      ascii = rw last w.ascii;
      order = omega arith;
      within = w.within;
    }

pub two_units : (bytes : List ℕ) (at high low ch : ℕ) → WritesUnit bytes at high → 55296 ≤ high → high < 56320
    → get_or bytes (at + 4) 0 ≡ 92 → get_or bytes (at + 5) 0 ≡ 117 → WritesUnit bytes (at + 6) low → 56320 ≤ low → low < 57344
    → ch ≡ surrogate_pair high low → WritesCharacter after_u in_string bytes at ch (at + 10)
unfolding content
two_units bytes at high low ch w low_end high_end slash letter v low_low low_high same =
    let last : at + 10 - 1 ≡ at + 6 + 3 = omega arith in
    let behind : at + 6 + 4 ≡ at + 10 = omega arith in
    let next : at + 4 + 1 ≡ at + 5 = omega arith in
    let then : at + 5 + 1 ≡ at + 6 = omega arith in
    let pair = halves high low low_end high_end low_low low_high in
    let both : drop (at + 4) bytes ≡ 92 ∷ 117 ∷ drop (at + 6) bytes =
    drop_more bytes (at + 4) 0 (omega (arith, v.within)) ∙ ap (λ x. x ∷ drop (at + 4 + 1) bytes) slash
    ∙ ap (λ n. 92 ∷ drop n bytes) next
    ∙ ap (λ r. 92 ∷ r) (drop_more bytes (at + 5) 0 (omega (arith, v.within)) ∙ ap (λ x. x ∷ drop (at + 5 + 1) bytes) letter
    ∙ ap (λ n. 117 ∷ drop n bytes) then) in
    let second : drop (at + 4) bytes ≡ 92 ∷ 117 ∷ get_or bytes (at + 6) 0 ∷ get_or bytes (at + 6 + 1) 0 ∷ get_or bytes (at + 6 + 2) 0
    ∷ get_or bytes (at + 6 + 3) 0 ∷ drop (at + 10) bytes =
    both ∙ ap (λ r. 92 ∷ 117 ∷ r) (four bytes (at + 6) v.within)
    ∙ ap (λ n. 92 ∷ 117 ∷ get_or bytes (at + 6) 0 ∷ get_or bytes (at + 6 + 1) 0 ∷ get_or bytes (at + 6 + 2) 0
    ∷ get_or bytes (at + 6 + 3) 0 ∷ drop n bytes) behind in
    record {
      is =
          ap (content after_u) (four bytes at w.within) ∙ rw w.is (rw (pair.0) (ap (content (after_high high)) second
          ∙ rw v.is (rw (pair.1) (rw same refl))));
      passed =
          unit_passed bytes at high w ∙ ap (lex in_string) both ∙ escape_passed 117 (drop (at + 6) bytes)
          ∙ unit_passed bytes (at + 6) low v ∙ ap (λ n. lex in_string (drop n bytes)) behind;
      ascii = rw last v.ascii;
      order = omega arith;
      within = omega (arith, v.within);
    }

letter_first : (bytes : List ℕ) (at x : ℕ) → at < length bytes → get_or bytes at 0 ≡ x → drop at bytes ≡ x ∷ drop (at + 1) bytes
letter_first bytes at x within is = drop_more bytes at 0 within ∙ ap (λ y. y ∷ drop (at + 1) bytes) is

pub by_letter : (bytes : List ℕ) (at letter ch : ℕ) → at < length bytes → get_or bytes at 0 ≡ letter → short_escape letter ≡ Some ch
    → (letter == 117) ≡ false → letter < 128 → ch < 128 → WritesCharacter after_backslash in_escape bytes at ch (at + 1)
unfolding content lex encode_utf8
by_letter bytes at letter ch within is stands other ascii small =
    let here = letter_first bytes at letter within is in
    let last : at + 1 - 1 ≡ at = omega arith in
    record {
      is = ap (content after_backslash) here ∙ rw other (rw stands (grind (arith, common_steps)));
      passed = ap (lex in_escape) here;
      ascii = rw last (omega (arith, is, ascii));
      order = omega arith;
      within = omega arith;
    }

pub by_number : (bytes : List ℕ) (at : ℕ) (r : Option (ℕ × ℕ)) → at < length bytes → get_or bytes at 0 ≡ 117
    → IfSome r (λ p. WritesCharacter after_u in_string bytes (at + 1) p.0 p.1)
    → IfSome r (λ p. WritesCharacter after_backslash in_escape bytes at p.0 p.1)
unfolding content lex
by_number bytes at None within is h = h
by_number bytes at (Some p) within is h =
    let here = letter_first bytes at 117 within is in
    record {
      is = ap (content after_backslash) here ∙ h.is;
      passed = ap (lex in_escape) here ∙ h.passed;
      ascii = h.ascii;
      order = omega (arith, h.order);
      within = h.within;
    }

-- ---- texts at a place

stretch : (bytes front mid : List ℕ) (at m end : ℕ) → m ≤ end → list_all is_plain (take (end - m) (drop m bytes)) ≡ true
    → content plain (drop at bytes) ≡ prepend front (content plain (drop m bytes))
    → lex in_string (drop at bytes) ≡ lex in_string (drop m bytes) → mid ≡ front ++ take (end - m) (drop m bytes)
    → (content plain (drop at bytes) ≡ prepend mid (content plain (drop end bytes)))
    × (lex in_string (drop at bytes) ≡ lex in_string (drop end bytes))
stretch bytes front mid at m end order all told passes is =
    let s : List ℕ = take (end - m) (drop m bytes) in
    let split = split_at bytes m end order in (
      told ∙ ap (prepend front) (ap (content plain) split ∙ plain_stretch s (drop end bytes) all)
          ∙ prepended front s (content plain (drop end bytes)) ∙ ap (λ xs. prepend xs (content plain (drop end bytes))) (sym is),
      passes ∙ ap (lex in_string) split ∙ stretch_passed s (drop end bytes) all,
    )

pub text_ended : (bytes front mid : List ℕ) (at m end : ℕ) → m ≤ end → list_all is_plain (take (end - m) (drop m bytes)) ≡ true
    → content plain (drop at bytes) ≡ prepend front (content plain (drop m bytes))
    → lex in_string (drop at bytes) ≡ lex in_string (drop m bytes) → mid ≡ front ++ take (end - m) (drop m bytes)
    → slice_index bytes end ≡ 34 → WritesText bytes at mid end
text_ended bytes front mid at m end order all told passes is quote =
    let so_far = stretch bytes front mid at m end order all told passes is in
    let here = peeked bytes end 34 quote (omega arith) in
    let over = quote_ends (drop (end + 1) bytes) in
    record {
      is = so_far.0 ∙ ap (λ r. prepend mid (content plain r)) here.1 ∙ ap (prepend mid) over.0 ∙ ap Some (append-nil mid);
      closed = so_far.1 ∙ ap (lex in_string) here.1 ∙ over.1;
      within = here.0;
    }

pub text_goes_on : (bytes front mid new : List ℕ) (at m end ch next : ℕ) → m ≤ end
    → list_all is_plain (take (end - m) (drop m bytes)) ≡ true
    → content plain (drop at bytes) ≡ prepend front (content plain (drop m bytes))
    → lex in_string (drop at bytes) ≡ lex in_string (drop m bytes) → mid ≡ front ++ take (end - m) (drop m bytes)
    → slice_index bytes end ≡ 92 → WritesCharacter after_backslash in_escape bytes (end + 1) ch next → new ≡ mid ++ encode_utf8 ch
    → (content plain (drop at bytes) ≡ prepend new (content plain (drop next bytes)))
    × (lex in_string (drop at bytes) ≡ lex in_string (drop next bytes))
unfolding content lex
text_goes_on bytes front mid new at m end ch next order all told passes is slash w grown =
    let so_far = stretch bytes front mid at m end order all told passes is in
    let here = peeked bytes end 92 slash (omega arith) in (
      so_far.0 ∙ ap (λ r. prepend mid (content plain r)) here.1 ∙ ap (prepend mid) w.is
          ∙ prepended mid (encode_utf8 ch) (content plain (drop next bytes))
          ∙ ap (λ xs. prepend xs (content plain (drop next bytes))) (sym grown),
      so_far.1 ∙ ap (lex in_string) here.1 ∙ w.passed,
    )
