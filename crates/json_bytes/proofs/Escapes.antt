-- Characters above ASCII stand for themselves, and the others by one byte, a letter or a number; in quotes too.
use Rattle.std.proofs.Common.{◌≡◌, ℕ, ◌<◌, ◌≤◌, ◌/◌, ◌%◌, zero, suc, List, [], ◌∷◌, ◌++◌, length, get_or, refl, sym, ap, ◌∙◌, arith, lt-ltb}
use Rattle.std.proofs.Common.{subst, inl, inr, ◌+◌, drop, append_assoc}
use Rattle.std.proofs.lemmas.Bool.{cases_lt}
use Rattle.std.specs.Prelude.{encode_utf8, encode_utf8_all, IsAscii}
use Rattle.std.proofs.lemmas.List.{append-nil, drop_more}
use Rattle.std.specs.Char.{digit_char}
use Rattle.std.proofs.lemmas.Str.{inside_one, encodes-IsAscii}
use Rattle.json.specs.Print.{escape, escape_byte, escape_letter}
use Rattle.json.proofs.Printed.Strings.{escape_byte_plain}
use Rattle.json_bytes.specs.Quote.{quote}
use Rattle.std.proofs.lemmas.Grind.{flat_map-append}

-- bytes above ASCII stand for themselves
stay : (bs : List ℕ) → ((k : ℕ) → k < length bs → 128 ≤ get_or bs k 0) → escape bs ≡ bs
stay [] h = refl
stay (b ∷ bs) h =
    let first : 128 ≤ b = h 0 (omega arith) in
    rw (escape_byte_plain b (λ e. absurd (omega (arith, first, e))) (λ e. absurd (omega (arith, first, e))) (omega (arith, first)))
    (ap (λ l. b ∷ l) (stay bs (λ k l. h (suc k) (omega (arith, l)))))

-- one byte that stands for a character
lone : (c : ℕ) → c < 128 → encode_utf8_all (c ∷ []) ≡ c ∷ []
lone c l = encodes-IsAscii (c ∷ []) one
  where
    one : IsAscii (c ∷ [])
    one zero = l
    one (suc k) = omega arith

above : (c : ℕ) → 128 ≤ c → (k : ℕ) → k < length (encode_utf8 c) → 128 ≤ get_or (encode_utf8 c) k 0
above c h k l = elim (cases_lt (get_or (encode_utf8 c) k 0) 128) [
  | inl m ↦
      let e : c ≡ get_or (encode_utf8 c) k 0 = inside_one c [] (encode_utf8 c) k (sym (append-nil (encode_utf8 c))) l m in
      absurd (omega (arith, e, h, m))
  | inr m ↦ m
]

pub escaped : (c : ℕ) → 32 ≤ c → (c ≡ 34 → ⊥) → (c ≡ 92 → ⊥) → escape (encode_utf8 c) ≡ encode_utf8 c
escaped c h q b = elim (cases_lt c 128) [
  | inl l ↦
      let one : encode_utf8 c ≡ c ∷ [] = sym (append-nil (encode_utf8 c)) ∙ lone c l in
      subst (λ bs. escape bs ≡ bs) (sym one) (rw (escape_byte_plain c q b h) refl)
  | inr m ↦ stay (encode_utf8 c) (above c m)
]

one_byte : (c : ℕ) → c < 128 → encode_utf8 c ≡ c ∷ []
one_byte c l = sym (append-nil (encode_utf8 c)) ∙ lone c l

pub ascii_escape : (c : ℕ) → c < 128 → 32 ≤ c → (c ≡ 34 → ⊥) → (c ≡ 92 → ⊥) → escape (encode_utf8 c) ≡ c ∷ []
ascii_escape c l h q b = escaped c h q b ∙ one_byte c l

pub letter_escape : (c l : ℕ) → c < 128 → escape_letter c ≡ l → 0 < l → escape (encode_utf8 c) ≡ 92 ∷ l ∷ []
unfolding escape_byte
letter_escape c l h e m = ap escape (one_byte c h) ∙ rw e (rw (lt-ltb 0 l m) refl)

pub number_escape : (c : ℕ) → c < 32 → escape_letter c ≡ 0
    → escape (encode_utf8 c) ≡ 92 ∷ 117 ∷ 48 ∷ 48 ∷ digit_char (c / 16) ∷ digit_char (c % 16) ∷ []
unfolding escape_byte
number_escape c h e = ap escape (one_byte c (omega arith)) ∙ rw e (rw (lt-ltb c 32 h) refl)

-- ---- a character in quotes

pub plain_quote : (c : ℕ) → 32 ≤ c → (c ≡ 34 → ⊥) → (c ≡ 92 → ⊥) → quote (c ∷ []) ≡ 34 ∷ (encode_utf8 c ++ 34 ∷ [])
plain_quote c h q b =
    ap (λ bs. 34 ∷ (escape bs ++ 34 ∷ [])) (append-nil (encode_utf8 c)) ∙ ap (λ bs. 34 ∷ (bs ++ 34 ∷ [])) (escaped c h q b)

pub letter_quote : (c l : ℕ) → c < 128 → escape_letter c ≡ l → 0 < l → quote (c ∷ []) ≡ 34 ∷ 92 ∷ l ∷ 34 ∷ []
unfolding escape_byte
letter_quote c l h e m =
    ap (λ bs. 34 ∷ (escape bs ++ 34 ∷ [])) (lone c h) ∙ rw e (rw (lt-ltb 0 l m) refl)

pub number_quote : (c : ℕ) → c < 32 → escape_letter c ≡ 0
    → quote (c ∷ []) ≡ 34 ∷ 92 ∷ 117 ∷ 48 ∷ 48 ∷ digit_char (c / 16) ∷ digit_char (c % 16) ∷ 34 ∷ []
unfolding escape_byte
number_quote c h e =
    ap (λ bs. 34 ∷ (escape bs ++ 34 ∷ [])) (lone c (omega arith)) ∙ rw e (rw (lt-ltb c 32 h) refl)

pub ascii_quote : (c : ℕ) → c < 128 → 32 ≤ c → (c ≡ 34 → ⊥) → (c ≡ 92 → ⊥) → quote (c ∷ []) ≡ 34 ∷ c ∷ 34 ∷ []
ascii_quote c l h q b =
    plain_quote c h q b ∙ ap (λ bs. 34 ∷ (bs ++ 34 ∷ [])) (sym (append-nil (encode_utf8 c)) ∙ lone c l)

-- ---- characters one after another

pub escapes_more : (cs : List ℕ) (i c : ℕ) (old new all : List ℕ) → i < length cs → c ≡ get_or cs i c
    → old ++ escape (encode_utf8_all (drop i cs)) ≡ all → new ≡ old ++ escape (encode_utf8 c)
    → new ++ escape (encode_utf8_all (drop (i + 1) cs)) ≡ all
escapes_more cs i c old new all h e so_far is =
    let here : drop i cs ≡ c ∷ drop (i + 1) cs = drop_more cs i c h ∙ ap (λ d. d ∷ drop (i + 1) cs) (sym e) in
    let left = encode_utf8_all (drop (i + 1) cs) in
    ap (λ l. l ++ escape left) is ∙ append_assoc old (escape (encode_utf8 c)) (escape left)
    ∙ ap (λ l. old ++ l) (sym (flat_map-append escape_byte (encode_utf8 c) left))
    ∙ ap (λ ds. old ++ escape (encode_utf8_all ds)) (sym here) ∙ so_far
