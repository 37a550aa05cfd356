-- How bytes are cut at LF.
use Rattle.std.proofs.Common.{◌≡◌, ◌≢◌, ℕ, ◌<◌, List, [], ◌∷◌, ◌++◌, length, All, false, refl, sym, ap, ◌∙◌, append_assoc, arith}
use Rattle.std.proofs.lemmas.Bool.{ne_eqb}
use lib.Dec.{eqb}
use Rattle.std.specs.List.{flat_map, onto_first}
use Rattle.std.proofs.lemmas.List.{append-nil}
use Rattle.std.proofs.lemmas.List.Elements.{All-head, All-tail}
use Rattle.wire_json.specs.Line.{IsLine}
use Rattle.line_engine.specs.Lines.{ended, cut}

-- a line with its LF is cut off
pub cut-line : (line rest : List ℕ) → IsLine line → cut (line ++ 10 ∷ rest) ≡ line ∷ cut rest
cut-line [] rest h = refl
cut-line (b ∷ bs) rest h =
    let apart : eqb b 10 ≡ false = ne_eqb b 10 (All-head (λ byte. byte ≢ 10) b bs h) in
    rw apart (ap (onto_first b) (cut-line bs rest (All-tail (λ byte. byte ≢ 10) b bs h)))

-- a last line without LF counts
pub cut-last : (b : ℕ) (bs : List ℕ) → IsLine (b ∷ bs) → cut (b ∷ bs) ≡ (b ∷ bs) ∷ []
cut-last b [] h =
    let apart : eqb b 10 ≡ false = ne_eqb b 10 (All-head (λ byte. byte ≢ 10) b [] h) in
    rw apart refl
cut-last b (c ∷ bs) h =
    let apart : eqb b 10 ≡ false = ne_eqb b 10 (All-head (λ byte. byte ≢ 10) b (c ∷ bs) h) in
    rw apart (ap (onto_first b) (cut-last c bs (All-tail (λ byte. byte ≢ 10) b (c ∷ bs) h)))

-- the same, where it is known that it has a byte
pub cut_one : (line : List ℕ) → 0 < length line → IsLine line → cut line ≡ line ∷ []
cut_one [] some h = absurd (omega (arith, some))
cut_one (b ∷ bs) some h = cut-last b bs h

-- lines with their LF are cut off
pub cut-lines : (lines : List (List ℕ)) (rest : List ℕ) → All IsLine lines → cut (flat_map ended lines ++ rest) ≡ lines ++ cut rest
cut-lines [] rest h = refl
cut-lines (line ∷ lines) rest h =
    rw (append_assoc (ended line) (flat_map ended lines) rest)
    (rw (append_assoc line (10 ∷ []) (flat_map ended lines ++ rest))
    (cut-line line (flat_map ended lines ++ rest) (All-head IsLine line lines h)
    ∙ ap (λ t. line ∷ t) (cut-lines lines rest (All-tail IsLine line lines h))))

-- one line more
pub ended-more : (lines : List (List ℕ)) (line : List ℕ) → flat_map ended (lines ++ line ∷ []) ≡ flat_map ended lines ++ ended line
ended-more [] line = append-nil (ended line)
ended-more (first ∷ lines) line =
    ap (λ t. ended first ++ t) (ended-more lines line) ∙ sym (append_assoc (ended first) (flat_map ended lines) (ended line))

pub ended-append : (lines more : List (List ℕ)) → flat_map ended (lines ++ more) ≡ flat_map ended lines ++ flat_map ended more
ended-append [] more = refl
ended-append (first ∷ lines) more =
    ap (λ t. ended first ++ t) (ended-append lines more) ∙ sym (append_assoc (ended first) (flat_map ended lines) (flat_map ended more))
