-- The line of a digest: it is a line, and no part's text is one. Lines with their ends are the bytes that they were cut from.
use Rattle.std.proofs.Common.{◌≡◌, ◌≢◌, ℕ, zero, suc, ◌/◌, ◌%◌, ◌<◌, inl, inr, Bool, true, false, cond, List, [], ◌∷◌, ◌++◌}
use Rattle.std.proofs.Common.{length, codes, refl, sym, ap, ◌∙◌, arith, append_assoc, bytes_eq, slice_index}
use Rattle.std.proofs.lemmas.Bool.{and_parts, eqb-true}
use Rattle.std.proofs.lemmas.Slice.Eq.{bytes_eq-Decides}
use Rattle.std.proofs.lemmas.List.Elements.{All-nil, All-cons, All-append}
use lib.Dec.{eqb}
use Rattle.hex.specs.Hex.{encode_lower, encode_with, lower_digits}
use Rattle.sha2.specs.Sha256.{sha256}
use Rattle.opid.specs.Operations.{Operation}
use Rattle.room_model.specs.declared.reply.Reply.TheVariants.{Ops}
use Rattle.wire_json.specs.Text.{text}
use Rattle.wire_json.specs.Line.{IsLine}
use Rattle.journal.specs.Journal.{IsEnded, behind_byte, whole_lines, digest_line, with_end, part_lines}
use Rattle.journal.proofs.Cutting.{some_line}
use Rattle.journal.proofs.Plain.{fixed, has_none, is_other}

-- ---- the line of a digest

digit_at : (t : List ℕ) → has_none t ≡ true → (k : ℕ) → slice_index t k ≢ 10
digit_at [] h k = λ e. omega arith
digit_at (x ∷ xs) h zero = is_other x (and_parts _ _ h).0
digit_at (x ∷ xs) h (suc k) = digit_at xs (and_parts _ _ h).1 k

digits_line : (xs : List ℕ) → IsLine (encode_with lower_digits xs)
unfolding encode_with
digits_line [] = All-nil (λ byte. byte ≢ 10)
digits_line (b ∷ rest) =
    All-cons (λ byte. byte ≢ 10) (slice_index lower_digits (b / 16)) (slice_index lower_digits (b % 16) ∷ encode_with lower_digits rest)
    (digit_at lower_digits refl (b / 16))
    (All-cons (λ byte. byte ≢ 10) (slice_index lower_digits (b % 16)) (encode_with lower_digits rest) (digit_at lower_digits refl (b % 16))
    (digits_line rest))

pub digest_is_line : (bytes : List ℕ) → IsLine (digest_line bytes)
digest_is_line bytes =
    All-append (λ byte. byte ≢ 10) (codes "{\"sha256\":\"") (encode_lower (sha256 bytes) ++ codes "\"}") (fixed (codes "{\"sha256\":\"") refl)
    (All-append (λ byte. byte ≢ 10) (encode_lower (sha256 bytes)) (codes "\"}") (digits_line (sha256 bytes)) (fixed (codes "\"}") refl))

-- the text of a part is no digest: the third characters differ
pub no_digest : (n : ℕ) (ops : List Operation) (bytes : List ℕ) → bytes_eq (text (Ops n ops)) (digest_line bytes) ≡ false
no_digest n ops bytes = refl

pub same_bytes : (xs : List ℕ) → bytes_eq xs xs ≡ true
same_bytes xs = (bytes_eq-Decides xs xs).1 refl

-- ---- lines with their ends

-- the lines, each with its end
abbrev pub joined : List (List ℕ) → List ℕ
joined [] = []
joined (line ∷ lines) = with_end line ++ joined lines

pub joined-append : (a b : List (List ℕ)) → joined (a ++ b) ≡ joined a ++ joined b
joined-append [] b = refl
joined-append (l ∷ ls) b =
    ap (λ (t : List ℕ). with_end l ++ t) (joined-append ls b) ∙ sym (append_assoc (with_end l) (joined ls) (joined b))

joined-behind : (b : ℕ) (lines : List (List ℕ)) → 0 < length lines → joined (behind_byte b lines) ≡ b ∷ joined lines
joined-behind b [] h = absurd (omega arith)
joined-behind b (line ∷ lines) h = refl

joined_front : (front : List ℕ) → joined (whole_lines (front ++ 10 ∷ [])) ≡ front ++ 10 ∷ []
joined_front [] = refl
joined_front (b ∷ bs) = go (eqb b 10) refl (joined_front bs)
  where
    lines : List (List ℕ)
    lines = whole_lines (bs ++ 10 ∷ [])

    go : (t : Bool) → eqb b 10 ≡ t → joined lines ≡ bs ++ 10 ∷ []
        → joined (cond t ([] ∷ lines) (behind_byte b lines)) ≡ b ∷ (bs ++ 10 ∷ [])
    go true e ih = ap (λ (x : ℕ). x ∷ joined lines) (sym (eqb-true b 10 e)) ∙ ap (λ (t : List ℕ). b ∷ t) ih
    go false e ih = joined-behind b lines (some_line bs) ∙ ap (λ (t : List ℕ). b ∷ t) ih

-- whole lines are the bytes that they were cut from
pub joined_whole : (bytes : List ℕ) → IsEnded bytes → joined (whole_lines bytes) ≡ bytes
joined_whole bytes e =
    elim e [
      | inl none ↦ rw none refl
      | inr some ↦ rw some.1 (joined_front some.0)
    ]

-- ---- the lines of a part

-- a part's text and then the digest were added to lines
pub part_added : (before old mid new : List ℕ) (n : ℕ) (part : List Operation) (told digest : List ℕ) → told ≡ text (Ops n part)
    → mid ≡ old ++ with_end told → digest ≡ digest_line (before ++ with_end told) → new ≡ mid ++ with_end digest
    → new ≡ old ++ part_lines before n part
part_added before old mid new n part told digest is first hashed second =
    second ∙ ap (λ (t : List ℕ). t ++ with_end digest) first ∙ append_assoc old (with_end told) (with_end digest)
    ∙ ap (λ (t : List ℕ). old ++ (with_end told ++ with_end t)) hashed
    ∙ ap (λ (t : List ℕ). old ++ (with_end t ++ with_end (digest_line (before ++ with_end t)))) is
