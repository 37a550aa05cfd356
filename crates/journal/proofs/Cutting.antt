-- How bytes are cut into whole lines.
use Rattle.std.proofs.Common.{◌≡◌, ◌≢◌, ℕ, ◌<◌, inl, inr, true, false, cond, List, [], ◌∷◌, ◌++◌, length, refl, sym, ap, ◌∙◌, arith}
use Rattle.std.proofs.Common.{append_assoc, append-nil}
use Rattle.std.proofs.lemmas.Bool.{ne_eqb}
use Rattle.std.proofs.lemmas.List.Elements.{All-head, All-tail}
use lib.Dec.{eqb}
use Rattle.wire_json.specs.Line.{IsLine}
use Rattle.journal.specs.Journal.{IsEnded, behind_byte, whole_lines}

-- a line with its LF is cut off
pub whole-line : (line rest : List ℕ) → IsLine line → whole_lines (line ++ 10 ∷ rest) ≡ line ∷ whole_lines rest
whole-line [] rest h = refl
whole-line (b ∷ bs) rest h =
    let apart : eqb b 10 ≡ false = ne_eqb b 10 (All-head (λ byte. byte ≢ 10) b bs h) in
    rw apart (ap (behind_byte b) (whole-line bs rest (All-tail (λ byte. byte ≢ 10) b bs h)))

-- what no LF ends is no line
pub whole-none : (bytes : List ℕ) → IsLine bytes → whole_lines bytes ≡ []
whole-none [] h = refl
whole-none (b ∷ bs) h =
    let apart : eqb b 10 ≡ false = ne_eqb b 10 (All-head (λ byte. byte ≢ 10) b bs h) in
    rw apart (ap (behind_byte b) (whole-none bs (All-tail (λ byte. byte ≢ 10) b bs h)))

longer : (b : ℕ) (lines : List (List ℕ)) → 0 < length lines → 0 < length (behind_byte b lines)
longer b [] h = absurd (omega arith)
longer b (line ∷ lines) h = omega arith

-- bytes that end with LF have a line
pub some_line : (front : List ℕ) → 0 < length (whole_lines (front ++ 10 ∷ []))
some_line [] = omega arith
some_line (b ∷ bs) =
    let lines = whole_lines (bs ++ 10 ∷ []) in
    elim (eqb b 10) as (λ t. 0 < length (cond t ([] ∷ lines) (behind_byte b lines))) [
      | true ↦ omega arith
      | false ↦ longer b lines (some_line bs)
    ]

behind-append : (b : ℕ) (lines more : List (List ℕ)) → 0 < length lines → behind_byte b (lines ++ more) ≡ behind_byte b lines ++ more
behind-append b [] more h = absurd (omega arith)
behind-append b (line ∷ lines) more h = refl

behind_last : (front rest : List ℕ) → whole_lines ((front ++ 10 ∷ []) ++ rest) ≡ whole_lines (front ++ 10 ∷ []) ++ whole_lines rest
behind_last [] rest = refl
behind_last (b ∷ bs) rest =
    let lines = whole_lines (bs ++ 10 ∷ []) in
    let all = whole_lines ((bs ++ 10 ∷ []) ++ rest) in
    elim (eqb b 10) as (λ t. cond t ([] ∷ all) (behind_byte b all) ≡ cond t ([] ∷ lines) (behind_byte b lines) ++ whole_lines rest) [
      | true ↦ ap (λ (ls : List (List ℕ)). [] ∷ ls) (behind_last bs rest)
      | false ↦ ap (behind_byte b) (behind_last bs rest) ∙ behind-append b lines (whole_lines rest) (some_line bs)
    ]

-- behind whole lines the next begins
pub whole-append : (bytes rest : List ℕ) → IsEnded bytes → whole_lines (bytes ++ rest) ≡ whole_lines bytes ++ whole_lines rest
whole-append bytes rest e =
    elim e [
      | inl none ↦ rw none refl
      | inr some ↦ rw some.1 (behind_last some.0 rest)
    ]

pub ended-append : (bytes more : List ℕ) → IsEnded bytes → IsEnded more → IsEnded (bytes ++ more)
ended-append bytes more e f =
    elim f [
      | inl none ↦ rw none (rw (append-nil bytes) e)
      | inr some ↦ inr (bytes ++ some.0, ap (λ (t : List ℕ). bytes ++ t) some.1 ∙ sym (append_assoc bytes some.0 (10 ∷ [])))
    ]
