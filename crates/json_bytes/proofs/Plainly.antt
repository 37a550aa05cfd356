-- Which tokens come first of bytes that are spelled plainly.
use Rattle.std.proofs.Common.{zero, ◌+◌, ◌-◌, take, drop, slice_index}
use Rattle.std.proofs.lemmas.List.{drop-drop, drop_all, take-append-drop}
use Rattle.std.proofs.Common.{◌≡◌, ℕ, suc, ◌<◌, ◌≤◌, List, [], ◌∷◌, ◌++◌, Bool, true, false, cond, ◌==◌, ◌⊎◌, inl, inr, length}
use Rattle.std.proofs.Common.{refl, sym, ap, ◌∙◌, subst, arith, eqb-true, Some}
use Rattle.json.specs.Token.{begin_object, end_object, begin_array, end_array, key, string, number, null, bad}
use Rattle.json.specs.Word.{ends_word}
use Rattle.json.specs.Print.{IsNumber}
use Rattle.json.specs.Lex.{Place, fresh, after_value, after_comma, after_key, Lexeme, token, colon}
use Rattle.json.specs.Lex.{Mode, between, in_string, lex, punctuate, may_begin, may_close, begins_colon}
use Rattle.json.specs.Text.{content, plain, prepend}
use Rattle.json.specs.Lex.{lex_byte, operator, space, other, string_token}
use Rattle.json.specs.Word.{is_operator, is_space, word}
use Rattle.std.specs.Prelude.{nat_lt}
use Rattle.std.specs.List.{list_all}
use Rattle.std.proofs.lemmas.Bool.{and_parts}
use Rattle.std.proofs.lemmas.Bool.Decides.{nat_tests}
use mathlib.Core.Path.{ap₂}
use Rattle.json.proofs.Printed.Numbers.{lex-number, in_word-ended}
use Rattle.serde_json.specs.Data as tree
use Rattle.serde_json.specs.Data.{unsigned}
use Rattle.json_bytes.specs.Plain.{Comes, is_plain}
use Rattle.json_bytes.proofs.Come.{number_comes, string_comes}
use Rattle.json_bytes.specs.Internal.Places.{tokens_behind, WritesNumber, WritesText}

pub open_bracket : (p : Place) (r : List ℕ) → may_begin p ≡ true → tokens_behind p (91 ∷ r) ≡ begin_array ∷ tokens_behind fresh r
unfolding lex punctuate
open_bracket fresh r h = refl
open_bracket after_value r h = cc
open_bracket after_comma r h = refl
open_bracket after_key r h = cc

pub open_brace : (p : Place) (r : List ℕ) → may_begin p ≡ true → tokens_behind p (123 ∷ r) ≡ begin_object ∷ tokens_behind fresh r
unfolding lex punctuate
open_brace fresh r h = refl
open_brace after_value r h = cc
open_brace after_comma r h = refl
open_brace after_key r h = cc

pub close_bracket : (p : Place) (r : List ℕ) → may_close p ≡ true → tokens_behind p (93 ∷ r) ≡ end_array ∷ tokens_behind after_value r
unfolding lex punctuate
close_bracket fresh r h = refl
close_bracket after_value r h = refl
close_bracket after_comma r h = cc
close_bracket after_key r h = cc

pub close_brace : (p : Place) (r : List ℕ) → may_close p ≡ true → tokens_behind p (125 ∷ r) ≡ end_object ∷ tokens_behind after_value r
unfolding lex punctuate
close_brace fresh r h = refl
close_brace after_value r h = refl
close_brace after_comma r h = cc
close_brace after_key r h = cc

pub past_comma : (r : List ℕ) → tokens_behind after_value (44 ∷ r) ≡ tokens_behind after_comma r
unfolding lex punctuate
past_comma r = refl

pub nothing_left : tokens_behind after_value [] ≡ []
unfolding lex punctuate
nothing_left = refl

-- a number, before what ends a word
placed_number : (p : Place) (s : List ℕ) (ls : List Lexeme) → may_begin p ≡ true
    → punctuate p (token (number s) ∷ ls) ≡ number s ∷ punctuate after_value ls
unfolding punctuate
placed_number fresh s ls h = refl
placed_number after_value s ls h = cc
placed_number after_comma s ls h = refl
placed_number after_key s ls h = cc

pub number_first : (p : Place) (s r : List ℕ) → may_begin p ≡ true → IsNumber s → ends_word r ≡ true
    → tokens_behind p (s ++ r) ≡ number s ∷ tokens_behind after_value r
number_first p s r h is ended = ap (punctuate p) (lex-number s r is ended) ∙ placed_number p s (lex between r) h

-- ---- texts whose bytes stand for themselves

pub no_quote : (x : ℕ) → is_plain x ≡ true → (x == 34) ≡ false
no_quote x h = go (x == 34) refl
  where
    go : (t : Bool) → (x == 34) ≡ t → t ≡ false
    go true e = let no : is_plain 34 ≡ true = subst (λ y. is_plain y ≡ true) (eqb-true x 34 e) h in cc
    go false e = refl

pub no_backslash : (x : ℕ) → is_plain x ≡ true → (x == 92) ≡ false
no_backslash x h = go (x == 92) refl
  where
    go : (t : Bool) → (x == 92) ≡ t → t ≡ false
    go true e = let no : is_plain 92 ≡ true = subst (λ y. is_plain y ≡ true) (eqb-true x 92 e) h in cc
    go false e = refl

pub no_control : (x : ℕ) → is_plain x ≡ true → nat_lt x 32 ≡ false
no_control x h = grind (arith, nat_tests)

content_plain : (s r : List ℕ) → list_all is_plain s ≡ true → content plain (s ++ 34 ∷ r) ≡ Some s
unfolding content
content_plain [] r h = refl
content_plain (x ∷ s) r h =
    let here = and_parts (is_plain x) (list_all is_plain s) h in
    rw (no_quote x here.0) (rw (no_backslash x here.0) (rw (no_control x here.0) (ap (prepend (x ∷ [])) (content_plain s r here.1))))

in_text : (o w : Bool) (x : ℕ) (xs : List ℕ) (k : Mode → List Lexeme)
    → lex_byte in_string (cond o operator (cond w space other)) x xs k ≡ k in_string
in_text true w x xs k = refl
in_text false true x xs k = refl
in_text false false x xs k = refl

pub passed : (x : ℕ) (xs : List ℕ) → is_plain x ≡ true → lex in_string (x ∷ xs) ≡ lex in_string xs
unfolding lex
passed x xs h =
    rw (no_quote x h) (rw (no_backslash x h) (in_text (is_operator x) (is_space x) x xs (λ m. lex m xs)))

all_passed : (s r : List ℕ) → list_all is_plain s ≡ true → lex in_string (s ++ 34 ∷ r) ≡ lex between r
unfolding lex
all_passed [] r h = refl
all_passed (x ∷ s) r h =
    let here = and_parts (is_plain x) (list_all is_plain s) h in
    passed x (s ++ 34 ∷ r) here.0 ∙ all_passed s r here.1

quoted : (s r : List ℕ) → list_all is_plain s ≡ true → lex between (34 ∷ (s ++ 34 ∷ r)) ≡ token (string s) ∷ lex between r
unfolding lex
quoted s r h = ap₂ (λ o ls. token (string_token o) ∷ ls) (content_plain s r h) (all_passed s r h)

placed_key : (p : Place) (s : List ℕ) (ls : List Lexeme) → may_begin p ≡ true
    → punctuate p (token (string s) ∷ colon ∷ ls) ≡ key s ∷ punctuate fresh ls
unfolding punctuate
placed_key fresh s ls h = refl
placed_key after_value s ls h = cc
placed_key after_comma s ls h = refl
placed_key after_key s ls h = cc

colon_first : (r : List ℕ) → lex between (58 ∷ r) ≡ colon ∷ lex between r
unfolding lex
colon_first r = refl

pub key_first : (p : Place) (s r : List ℕ) → may_begin p ≡ true → list_all is_plain s ≡ true
    → tokens_behind p (34 ∷ (s ++ 34 ∷ 58 ∷ r)) ≡ key s ∷ tokens_behind fresh r
key_first p s r h plainly =
    ap (punctuate p) (quoted s (58 ∷ r) plainly ∙ ap (λ ls. token (string s) ∷ ls) (colon_first r)) ∙ placed_key p s (lex between r) h

placed_text : (p : Place) (s : List ℕ) (ls : List Lexeme) → may_begin p ≡ true → begins_colon ls ≡ false
    → punctuate p (token (string s) ∷ ls) ≡ string s ∷ punctuate after_value ls
unfolding punctuate
placed_text fresh s ls h e = rw e refl
placed_text after_value s ls h e = cc
placed_text after_comma s ls h e = rw e refl
placed_text after_key s ls h e = cc

text_first : (p : Place) (s r : List ℕ) → may_begin p ≡ true → list_all is_plain s ≡ true → begins_colon (lex between r) ≡ false
    → tokens_behind p (34 ∷ (s ++ 34 ∷ r)) ≡ string s ∷ tokens_behind after_value r
text_first p s r h plainly e = ap (punctuate p) (quoted s r plainly) ∙ placed_text p s (lex between r) h e

pub no_colon_comma : (r : List ℕ) → begins_colon (lex between (44 ∷ r)) ≡ false
unfolding lex
no_colon_comma r = refl

pub no_colon_bracket : (r : List ℕ) → begins_colon (lex between (93 ∷ r)) ≡ false
unfolding lex
no_colon_bracket r = refl

pub no_colon_brace : (r : List ℕ) → begins_colon (lex between (125 ∷ r)) ≡ false
unfolding lex
no_colon_brace r = refl

-- ---- null

placed_null : (p : Place) (ls : List Lexeme) → may_begin p ≡ true → punctuate p (token null ∷ ls) ≡ null ∷ punctuate after_value ls
unfolding punctuate
placed_null fresh ls h = refl
placed_null after_value ls h = cc
placed_null after_comma ls h = refl
placed_null after_key ls h = cc

null_read : (r : List ℕ) → ends_word r ≡ true → lex between (110 ∷ 117 ∷ 108 ∷ 108 ∷ r) ≡ token null ∷ lex between r
unfolding lex word
null_read r ended = ap₂ (λ (b : Bool) ls. token (cond b null bad) ∷ ls) ended (in_word-ended r ended)

pub null_first : (p : Place) (r : List ℕ) → may_begin p ≡ true → ends_word r ≡ true
    → tokens_behind p (110 ∷ 117 ∷ 108 ∷ 108 ∷ r) ≡ null ∷ tokens_behind after_value r
null_first p r h ended = ap (punctuate p) (null_read r ended) ∙ placed_null p (lex between r) h

-- ---- bytes at a place

pub peeked : (bytes : List ℕ) (at c : ℕ) → slice_index bytes at ≡ c → 0 < c
    → (at < length bytes) × (drop at bytes ≡ c ∷ drop (at + 1) bytes)
peeked [] at c e h = let none : 0 ≡ c = e in absurd (omega (arith, none, h))
peeked (x ∷ xs) zero c e h = (omega arith, ap (λ d. d ∷ xs) e)
peeked (x ∷ xs) (suc at) c e h =
    let more = peeked xs at c e h in
    let next : suc at + 1 ≡ suc (at + 1) = omega arith in
    (omega (arith, more.0), more.1 ∙ ap (λ n. c ∷ drop n (x ∷ xs)) (sym next))

space_passed : (c : ℕ) (r : List ℕ) → is_space c ≡ true → lex between (c ∷ r) ≡ lex between r
unfolding lex
space_passed c r h = first (c == 32) refl
  where
    named : (d : ℕ) → (c == d) ≡ true → lex between (d ∷ r) ≡ lex between r → lex between (c ∷ r) ≡ lex between r
    named d e is = subst (λ x. lex between (x ∷ r) ≡ lex between r) (sym (eqb-true c d e)) is

    fourth : (t : Bool) → (c == 13) ≡ t → (c == 32) ≡ false → (c == 9) ≡ false → (c == 10) ≡ false → lex between (c ∷ r) ≡ lex between r
    fourth true e a b d = named 13 e refl
    fourth false e a b d = let never : false ≡ true = rw (a, b, d, e) at h in cc

    third : (t : Bool) → (c == 10) ≡ t → (c == 32) ≡ false → (c == 9) ≡ false → lex between (c ∷ r) ≡ lex between r
    third true e a b = named 10 e refl
    third false e a b = fourth (c == 13) refl a b e

    second : (t : Bool) → (c == 9) ≡ t → (c == 32) ≡ false → lex between (c ∷ r) ≡ lex between r
    second true e a = named 9 e refl
    second false e a = third (c == 10) refl a e

    first : (t : Bool) → (c == 32) ≡ t → lex between (c ∷ r) ≡ lex between r
    first true e = named 32 e refl
    first false e = second (c == 9) refl e

positive : (c : ℕ) → is_space c ≡ true → 0 < c
positive zero h = cc
positive (suc c) h = omega arith

pub spaces_on : (bytes : List ℕ) (at c : ℕ) → slice_index bytes at ≡ c → is_space c ≡ true
    → (at < length bytes) × (lex between (drop (at + 1) bytes) ≡ lex between (drop at bytes))
spaces_on bytes at c e h =
    let here = peeked bytes at c e (positive c h) in
    (here.0, sym (ap (lex between) here.1 ∙ space_passed c (drop (at + 1) bytes) h))

pub comma_passed : (bytes : List ℕ) (at end new : ℕ) → lex between (drop end bytes) ≡ lex between (drop at bytes)
    → slice_index bytes end ≡ 44 → lex between (drop new bytes) ≡ lex between (drop (end + 1) bytes)
    → tokens_behind after_comma (drop new bytes) ≡ tokens_behind after_value (drop at bytes)
comma_passed bytes at end new before here behind =
    ap (punctuate after_comma) behind ∙ sym (past_comma (drop (end + 1) bytes))
    ∙ ap (tokens_behind after_value) (sym (peeked bytes end 44 here (omega arith)).1) ∙ ap (punctuate after_value) before

pub split_at : (bytes : List ℕ) (at end : ℕ) → at ≤ end → drop at bytes ≡ take (end - at) (drop at bytes) ++ drop end bytes
split_at bytes at end order =
    sym (take-append-drop (end - at) (drop at bytes))
    ∙ ap (λ r. take (end - at) (drop at bytes) ++ r) (drop-drop (end - at) at bytes ∙ ap (λ n. drop n bytes) (omega (arith, order)))

-- ---- what is taken at a place: `bytes` are those of `text`

pub array_opened : (bytes text : List ℕ) (at new : ℕ) (p : Place) → bytes ≡ text → may_begin p ≡ true → slice_index bytes at ≡ 91
    → lex between (drop new bytes) ≡ lex between (drop (at + 1) bytes)
    → tokens_behind p (drop at text) ≡ begin_array ∷ tokens_behind fresh (drop new text)
array_opened bytes text at new p same h here behind =
    subst (λ bs. tokens_behind p (drop at bs) ≡ begin_array ∷ tokens_behind fresh (drop new bs)) same
    (ap (tokens_behind p) (peeked bytes at 91 here (omega arith)).1 ∙ open_bracket p (drop (at + 1) bytes) h
    ∙ ap (λ ls. begin_array ∷ punctuate fresh ls) (sym behind))

pub object_opened : (bytes text : List ℕ) (at new : ℕ) (p : Place) → bytes ≡ text → may_begin p ≡ true → slice_index bytes at ≡ 123
    → lex between (drop new bytes) ≡ lex between (drop (at + 1) bytes)
    → tokens_behind p (drop at text) ≡ begin_object ∷ tokens_behind fresh (drop new text)
object_opened bytes text at new p same h here behind =
    subst (λ bs. tokens_behind p (drop at bs) ≡ begin_object ∷ tokens_behind fresh (drop new bs)) same
    (ap (tokens_behind p) (peeked bytes at 123 here (omega arith)).1 ∙ open_brace p (drop (at + 1) bytes) h
    ∙ ap (λ ls. begin_object ∷ punctuate fresh ls) (sym behind))

pub array_closed : (bytes text : List ℕ) (at new : ℕ) (p q : Place) → bytes ≡ text → may_close p ≡ true → slice_index bytes at ≡ 93
    → tokens_behind q (drop new bytes) ≡ tokens_behind after_value (drop (at + 1) bytes)
    → tokens_behind p (drop at text) ≡ end_array ∷ tokens_behind q (drop new text)
array_closed bytes text at new p q same h here behind =
    subst (λ bs. tokens_behind p (drop at bs) ≡ end_array ∷ tokens_behind q (drop new bs)) same
    (ap (tokens_behind p) (peeked bytes at 93 here (omega arith)).1 ∙ close_bracket p (drop (at + 1) bytes) h
    ∙ ap (λ ts. end_array ∷ ts) (sym behind))

pub object_closed : (bytes text : List ℕ) (at new : ℕ) (p q : Place) → bytes ≡ text → may_close p ≡ true → slice_index bytes at ≡ 125
    → tokens_behind q (drop new bytes) ≡ tokens_behind after_value (drop (at + 1) bytes)
    → tokens_behind p (drop at text) ≡ end_object ∷ tokens_behind q (drop new text)
object_closed bytes text at new p q same h here behind =
    subst (λ bs. tokens_behind p (drop at bs) ≡ end_object ∷ tokens_behind q (drop new bs)) same
    (ap (tokens_behind p) (peeked bytes at 125 here (omega arith)).1 ∙ close_brace p (drop (at + 1) bytes) h
    ∙ ap (λ ts. end_object ∷ ts) (sym behind))

pub number_taken : (bytes text : List ℕ) (at n end new : ℕ) (p q : Place) → bytes ≡ text → may_begin p ≡ true
    → WritesNumber bytes at n end → tokens_behind q (drop new bytes) ≡ tokens_behind after_value (drop end bytes)
    → Comes 1 (tokens_behind p (drop at text)) (tree.number (unsigned n)) (tokens_behind q (drop new text))
number_taken bytes text at n end new p q same h w behind =
    subst (λ bs. Comes 1 (tokens_behind p (drop at bs)) (tree.number (unsigned n)) (tokens_behind q (drop new bs))) same
    (subst (λ ts. Comes 1 ts (tree.number (unsigned n)) (tokens_behind q (drop new bytes)))
    (sym (w.first p h ∙ ap (λ ts. number w.text ∷ ts) (sym behind))) (number_comes w.text n (tokens_behind q (drop new bytes)) w.value))

text_begun : (told r s : List ℕ) → content plain r ≡ Some told → lex in_string r ≡ lex between s
    → lex between (34 ∷ r) ≡ token (string told) ∷ lex between s
unfolding lex
text_begun told r s is closed = ap₂ (λ o ls. token (string_token o) ∷ ls) is closed

pub text_taken : (bytes text told : List ℕ) (at end new : ℕ) (p q : Place) → bytes ≡ text → may_begin p ≡ true
    → slice_index bytes at ≡ 34 → WritesText text (at + 1) told end → begins_colon (lex between (drop (end + 1) bytes)) ≡ false
    → tokens_behind q (drop new bytes) ≡ tokens_behind after_value (drop (end + 1) bytes)
    → Comes 1 (tokens_behind p (drop at text)) (tree.string told) (tokens_behind q (drop new text))
text_taken bytes text told at end new p q same h here w alone behind =
    let quote : drop at text ≡ 34 ∷ drop (at + 1) text =
    subst (λ bs. drop at bs ≡ 34 ∷ drop (at + 1) bs) same (peeked bytes at 34 here (omega arith)).1 in
    let single = subst (λ bs. begins_colon (lex between (drop (end + 1) bs)) ≡ false) same alone in
    let on = subst (λ bs. tokens_behind q (drop new bs) ≡ tokens_behind after_value (drop (end + 1) bs)) same behind in
    subst (λ ts. Comes 1 ts (tree.string told) (tokens_behind q (drop new text)))
    (sym (ap (tokens_behind p) quote ∙ ap (punctuate p) (text_begun told (drop (at + 1) text) (drop (end + 1) text) w.is w.closed)
    ∙ placed_text p told (lex between (drop (end + 1) text)) h single ∙ ap (λ ts. string told ∷ ts) (sym on)))
    (string_comes told (tokens_behind q (drop new text)))

pub no_colon : (bytes : List ℕ) (at end c : ℕ) → lex between (drop end bytes) ≡ lex between (drop at bytes) → slice_index bytes end ≡ c
    → (c ≡ 44) ⊎ ((c ≡ 93) ⊎ (c ≡ 125)) → begins_colon (lex between (drop at bytes)) ≡ false
no_colon bytes at end c same here one = ap begins_colon (sym same) ∙ go one
  where
    at_byte : (d : ℕ) → c ≡ d → 0 < d → begins_colon (lex between (d ∷ drop (end + 1) bytes)) ≡ false
        → begins_colon (lex between (drop end bytes)) ≡ false
    at_byte d e some is = ap (λ bs. begins_colon (lex between bs)) (peeked bytes end d (here ∙ e) some).1 ∙ is

    go : (c ≡ 44) ⊎ ((c ≡ 93) ⊎ (c ≡ 125)) → begins_colon (lex between (drop end bytes)) ≡ false
    go (inl e) = at_byte 44 e (omega arith) (no_colon_comma (drop (end + 1) bytes))
    go (inr (inl e)) = at_byte 93 e (omega arith) (no_colon_bracket (drop (end + 1) bytes))
    go (inr (inr e)) = at_byte 125 e (omega arith) (no_colon_brace (drop (end + 1) bytes))

pub key_taken : (bytes text name : List ℕ) (at end new : ℕ) (p : Place) → bytes ≡ text → may_begin p ≡ true
    → slice_index bytes at ≡ 34 → at + 1 ≤ end → take (end - (at + 1)) (drop (at + 1) bytes) ≡ name → list_all is_plain name ≡ true
    → slice_index bytes end ≡ 34 → slice_index bytes (end + 1) ≡ 58
    → lex between (drop new bytes) ≡ lex between (drop (end + 1 + 1) bytes)
    → tokens_behind p (drop at text) ≡ key name ∷ tokens_behind fresh (drop new text)
key_taken bytes text name at end new p same h here order is plainly quote colons behind =
    let front = (peeked bytes at 34 here (omega arith)).1 in
    let middle = split_at bytes (at + 1) end order ∙ ap (λ s. s ++ drop end bytes) is in
    let last = (peeked bytes end 34 quote (omega arith)).1 ∙ ap (λ r. 34 ∷ r) (peeked bytes (end + 1) 58 colons (omega arith)).1 in
    subst (λ bs. tokens_behind p (drop at bs) ≡ key name ∷ tokens_behind fresh (drop new bs)) same
    (ap (tokens_behind p) (front ∙ ap (λ r. 34 ∷ r) (middle ∙ ap (λ r. name ++ r) last))
    ∙ key_first p name (drop (end + 1 + 1) bytes) h plainly ∙ ap (λ ls. key name ∷ punctuate fresh ls) (sym behind))

pub name_taken : (bytes text name : List ℕ) (at end new : ℕ) (p q : Place) → bytes ≡ text → may_begin p ≡ true
    → slice_index bytes at ≡ 34 → at + 1 ≤ end → take (end - (at + 1)) (drop (at + 1) bytes) ≡ name → list_all is_plain name ≡ true
    → slice_index bytes end ≡ 34 → begins_colon (lex between (drop (end + 1) bytes)) ≡ false
    → tokens_behind q (drop new bytes) ≡ tokens_behind after_value (drop (end + 1) bytes)
    → Comes 1 (tokens_behind p (drop at text)) (tree.string name) (tokens_behind q (drop new text))
name_taken bytes text name at end new p q same h here order is plainly quote alone behind =
    let front = (peeked bytes at 34 here (omega arith)).1 in
    let middle = split_at bytes (at + 1) end order ∙ ap (λ s. s ++ drop end bytes) is in
    let last = (peeked bytes end 34 quote (omega arith)).1 in
    let first : tokens_behind p (drop at bytes) ≡ string name ∷ tokens_behind after_value (drop (end + 1) bytes) =
    ap (tokens_behind p) (front ∙ ap (λ r. 34 ∷ r) (middle ∙ ap (λ r. name ++ r) last))
    ∙ text_first p name (drop (end + 1) bytes) h plainly alone in
    subst (λ bs. Comes 1 (tokens_behind p (drop at bs)) (tree.string name) (tokens_behind q (drop new bs))) same
    (subst (λ ts. Comes 1 ts (tree.string name) (tokens_behind q (drop new bytes)))
    (sym (first ∙ ap (λ ts. string name ∷ ts) (sym behind))) (string_comes name (tokens_behind q (drop new bytes))))

pub null_taken : (bytes text : List ℕ) (at new : ℕ) (p q : Place) → bytes ≡ text → may_begin p ≡ true → slice_index bytes at ≡ 110
    → drop (at + 1) bytes ≡ 117 ∷ 108 ∷ 108 ∷ drop (at + 4) bytes → ends_word (drop (at + 4) bytes) ≡ true
    → tokens_behind q (drop new bytes) ≡ tokens_behind after_value (drop (at + 4) bytes)
    → tokens_behind p (drop at text) ≡ null ∷ tokens_behind q (drop new text)
null_taken bytes text at new p q same h here more ended behind =
    subst (λ bs. tokens_behind p (drop at bs) ≡ null ∷ tokens_behind q (drop new bs)) same
    (ap (tokens_behind p) ((peeked bytes at 110 here (omega arith)).1 ∙ ap (λ r. 110 ∷ r) more)
    ∙ null_first p (drop (at + 4) bytes) h ended ∙ ap (λ ts. null ∷ ts) (sym behind))

pub three_more : (bytes : List ℕ) (at : ℕ) → slice_index bytes (at + 1) ≡ 117 → slice_index bytes (at + 2) ≡ 108
    → slice_index bytes (at + 3) ≡ 108 → drop (at + 1) bytes ≡ 117 ∷ 108 ∷ 108 ∷ drop (at + 4) bytes
three_more bytes at u l k =
    let e2 : at + 1 + 1 ≡ at + 2 = omega arith in
    let e3 : at + 2 + 1 ≡ at + 3 = omega arith in
    let e4 : at + 3 + 1 ≡ at + 4 = omega arith in
    let d : ℕ → List ℕ = λ n. drop n bytes in
    (peeked bytes (at + 1) 117 u (omega arith)).1
    ∙ ap (λ r. 117 ∷ r) (ap d e2 ∙ (peeked bytes (at + 2) 108 l (omega arith)).1
    ∙ ap (λ r. 108 ∷ r) (ap d e3 ∙ (peeked bytes (at + 3) 108 k (omega arith)).1 ∙ ap (λ n. 108 ∷ d n) e4))

pub all_read : (text : List ℕ) (at : ℕ) → length text ≤ at → tokens_behind after_value (drop at text) ≡ []
all_read text at h = ap (tokens_behind after_value) (drop_all at text h) ∙ nothing_left
