-- The lines of operations, one part after another, and a journal to which they are appended.
use Rattle.std.proofs.Common.{◌≡◌, ℕ, ◌+◌, ◌≤◌, inl, inr, List, [], ◌∷◌, ◌++◌, length, Ok, refl, sym, ap, ◌∙◌, subst, arith}
use Rattle.std.proofs.Common.{append_assoc, append-nil, length-append, add-zero, zero-add}
use Rattle.std.specs.List.{AllByRecursion}
use Rattle.opid.specs.Operations.{Operation}
use Rattle.opid.specs.Lawful.{IsLawful}
use Rattle.room_model.specs.declared.reply.Reply.TheVariants.{Ops}
use Rattle.operation_json.specs.PackedOperations.{concatenated}
use Rattle.wire_json.specs.Text.{text}
use Rattle.journal.specs.Journal.{IsEnded, FitsLine, AreLinesOf, StandsFor, whole_lines, digest_line, with_end, part_lines}
use Rattle.journal.specs.Journal.{lines_of, log_told}
use Rattle.journal.proofs.Cutting.{whole-append, ended-append}
use Rattle.journal.proofs.Digests.{joined, joined_whole}
use Rattle.journal.proofs.Telling.{told_both, parts_told}

-- ---- one part more

lines_of-push : (before : List ℕ) (n : ℕ) (parts : List (List Operation)) (part : List Operation)
    → lines_of before n (parts ++ part ∷ [])
    ≡ lines_of before n parts ++ part_lines (before ++ lines_of before n parts) (n + length (concatenated parts)) part
lines_of-push before n [] part =
    append-nil (part_lines before n part)
    ∙ ap (λ (b : List ℕ). part_lines b n part) (sym (append-nil before)) ∙ ap (λ k. part_lines (before ++ []) k part) (sym (add-zero n))
lines_of-push before n (p ∷ ps) part =
    let first = part_lines before n p in
    let next = before ++ first in
    let rest = lines_of next (n + length p) ps in
    let size : n + length p + length (concatenated ps) ≡ n + length (concatenated (p ∷ ps)) =
    omega (arith, length-append p (concatenated ps)) in
    ap (λ (t : List ℕ). first ++ t) (lines_of-push next (n + length p) ps part)
    ∙ sym (append_assoc first rest (part_lines (next ++ rest) (n + length p + length (concatenated ps)) part))
    ∙ ap (λ (b : List ℕ). (first ++ rest) ++ part_lines b (n + length p + length (concatenated ps)) part) (append_assoc before first rest)
    ∙ ap (λ k. (first ++ rest) ++ part_lines (before ++ (first ++ rest)) k part) size

concatenated-push : (parts : List (List Operation)) (part : List Operation) → concatenated (parts ++ part ∷ []) ≡ concatenated parts ++ part
concatenated-push [] part = append-nil part
concatenated-push (p ∷ ps) part =
    ap (λ (t : List Operation). p ++ t) (concatenated-push ps part) ∙ sym (append_assoc p (concatenated ps) part)

all-push : (parts : List (List Operation)) (part : List Operation) → AllByRecursion FitsLine parts → FitsLine part
    → AllByRecursion FitsLine (parts ++ part ∷ [])
all-push [] part h k = (k, tt)
all-push (p ∷ ps) part h k = (h.0, all-push ps part h.1 k)

pub no_lines : (before : List ℕ) (n : ℕ) (ops : List Operation) (bytes : List ℕ) → ops ≡ [] → bytes ≡ [] → AreLinesOf before n ops bytes
no_lines before n ops bytes e f = record { parts = []; whole = sym e; each = tt; written = f }

pub lines_more : (before : List ℕ) (n : ℕ) (ops part ops' : List Operation) (m : ℕ) (old new : List ℕ) → AreLinesOf before n ops old
    → FitsLine part → m ≡ n + length ops → new ≡ old ++ part_lines (before ++ old) m part → ops' ≡ ops ++ part
    → AreLinesOf before n ops' new
lines_more before n ops part ops' m old new a p at is grown =
    let place : m ≡ n + length (concatenated a.parts) = at ∙ ap (λ (xs : List Operation). n + length xs) (sym a.whole) in
    record {
      parts = a.parts ++ part ∷ [];
      whole = concatenated-push a.parts part ∙ ap (λ (xs : List Operation). xs ++ part) a.whole ∙ sym grown;
      each = all-push a.parts part a.each p;
      written = is ∙ ap (λ k. old ++ part_lines (before ++ old) k part) place
          ∙ ap (λ (t : List ℕ). t ++ part_lines (before ++ t) (n + length (concatenated a.parts)) part) a.written
          ∙ sym (lines_of-push before n a.parts part);
    }

-- ---- a journal goes on

part_ended : (before : List ℕ) (n : ℕ) (p : List Operation) → IsEnded (part_lines before n p)
part_ended before n p =
    let told = with_end (text (Ops n p)) in
    let digest = digest_line (before ++ told) in
    inr (told ++ digest, sym (append_assoc told digest (10 ∷ [])))

lines_ended : (before : List ℕ) (n : ℕ) (parts : List (List Operation)) → IsEnded (lines_of before n parts)
lines_ended before n [] = inl refl
lines_ended before n (p ∷ ps) =
    let next = before ++ part_lines before n p in
    ended-append (part_lines before n p) (lines_of next (n + length p) ps) (part_ended before n p) (lines_ended next (n + length p) ps)

pub still_ended : (n : ℕ) (bytes more : List ℕ) (ops : List Operation) → IsEnded bytes → AreLinesOf bytes n ops more
    → IsEnded (bytes ++ more)
still_ended n bytes more ops e a = ended-append bytes more e (subst IsEnded (sym a.written) (lines_ended bytes n a.parts))

pub grown : (bytes more : List ℕ) (log ops : List Operation) → IsEnded bytes → StandsFor bytes log → AreLinesOf bytes (length log) ops more
    → IsLawful (log ++ ops) → length (log ++ ops) ≤ 131072 → StandsFor (bytes ++ more) (log ++ ops)
grown bytes more log ops e s a lawful few =
    let fits : length log + length (concatenated a.parts) ≤ 131072 =
    omega (arith, few, length-append log ops, ap (length {A = Operation}) a.whole) in
    let told : log_told bytes (length log) (whole_lines more) ≡ Ok ops =
    ap (λ (t : List ℕ). log_told bytes (length log) (whole_lines t)) a.written ∙ parts_told bytes (length log) a.parts a.each fits
    ∙ ap Ok a.whole in
    record {
      told = ap (log_told [] 0) (whole-append bytes more e)
          ∙ told_both [] 0 (whole_lines bytes) (whole_lines more) log ops s.told
          (subst (λ n. log_told (joined (whole_lines bytes)) n (whole_lines more) ≡ Ok ops) (sym (zero-add (length log)))
          (subst (λ (b : List ℕ). log_told b (length log) (whole_lines more) ≡ Ok ops) (sym (joined_whole bytes e)) told));
      lawful = lawful;
      few = few;
    }

pub one : (bytes : List ℕ) (a b : List Operation) → StandsFor bytes a → StandsFor bytes b → a ≡ b
one bytes a b h k = let first = h.told in let second = k.told in cc
