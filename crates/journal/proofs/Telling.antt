-- The log that lines tell, one line after another.
use Rattle.std.proofs.Common.{◌≡◌, ℕ, ◌+◌, ◌<◌, ◌≤◌, ◌^◌, List, [], ◌∷◌, ◌++◌, length, take, Result, Ok, Err, refl, sym, ap, ◌∙◌, subst}
use Rattle.std.proofs.Common.{arith, cond}
use Rattle.std.proofs.Common.{append_assoc, append-nil, length-append, eq-eqb, add-zero}
use Rattle.std.specs.List.{AllByRecursion}
use Rattle.std.proofs.Math.Seq.{take-append_seam}
use Rattle.opid.specs.declared.refusal.Refusal.{Refusal}
use Rattle.opid.specs.Operations.{Operation}
use Rattle.opid.specs.Lawful.{IsLawful, GoesOn}
use Rattle.opid.proofs.Logs.{IsLawful-take, goes_on_after}
use Rattle.room_model.specs.declared.reply.Reply.TheVariants.{Ops}
use Rattle.operation_json.specs.Members.{◌>>=◌}
use Rattle.operation_json.specs.PackedOperations.{concatenated}
use Rattle.wire_json.specs.Text.{text}
use Rattle.wire_json.proofs.Replies.{part_reads_back}
use Rattle.journal.specs.Journal.{FitsLine, part_from, next_part, digest_line, line_told, with_end, log_told, whole_lines}
use Rattle.journal.specs.Journal.{part_lines, lines_of}
use Rattle.journal.proofs.Cutting.{whole-line}
use Rattle.journal.proofs.Digests.{digest_is_line, no_digest, same_bytes, joined}
use Rattle.journal.proofs.Plain.{part_line}

-- the log, and behind it what else is told
abbrev behind_log : List Operation → Result (List Operation) Refusal → Result (List Operation) Refusal
behind_log log r = r >>= λ xs. Ok (log ++ xs)

behind_none : (r : Result (List Operation) Refusal) → r ≡ behind_log [] r
behind_none (Ok xs) = refl
behind_none (Err e) = refl

behind_both : (a b : List Operation) (r : Result (List Operation) Refusal) → behind_log a (behind_log b r) ≡ behind_log (a ++ b) r
behind_both a b (Ok xs) = ap Ok (sym (append_assoc a b xs))
behind_both a b (Err e) = refl

-- lines that tell a log, and others behind them
told-append : (before : List ℕ) (n : ℕ) (front more : List (List ℕ)) (log : List Operation) → log_told before n front ≡ Ok log
    → log_told before n (front ++ more) ≡ behind_log log (log_told (before ++ joined front) (n + length log) more)
told-append before n [] more log e =
    let none : [] ≡ log = cc in
    subst (λ (l : List Operation). log_told before n more ≡ behind_log l (log_told (before ++ []) (n + length l) more)) none
    (ap (λ k. log_told before k more) (sym (add-zero n)) ∙ ap (λ (b : List ℕ). log_told b (n + 0) more) (sym (append-nil before))
    ∙ behind_none (log_told (before ++ []) (n + 0) more))
told-append before n (line ∷ front) more log e =
    go (line_told before n line) e (λ ops ys is. told-append (before ++ with_end line) (n + length ops) front more ys is)
  where
    next : List ℕ
    next = before ++ with_end line

    inner : (ops : List Operation) (s : Result (List Operation) Refusal) → log_told next (n + length ops) front ≡ s
        → behind_log ops s ≡ Ok log
        → ((ys : List Operation) → log_told next (n + length ops) front ≡ Ok ys
        → log_told next (n + length ops) (front ++ more)
        ≡ behind_log ys (log_told (next ++ joined front) (n + length ops + length ys) more))
        → behind_log ops (log_told next (n + length ops) (front ++ more))
        ≡ behind_log log (log_told (before ++ joined (line ∷ front)) (n + length log) more)
    inner ops (Ok ys) is f on =
        let whole : ops ++ ys ≡ log = cc in
        let size : n + length ops + length ys ≡ n + length (ops ++ ys) = omega (arith, length-append ops ys) in
        ap (behind_log ops) (on ys is)
        ∙ behind_both ops ys (log_told (next ++ joined front) (n + length ops + length ys) more)
        ∙ ap (λ k. behind_log (ops ++ ys) (log_told (next ++ joined front) k more)) size
        ∙ ap (λ (l : List Operation). behind_log l (log_told (next ++ joined front) (n + length l) more)) whole
        ∙ ap (λ (b : List ℕ). behind_log log (log_told b (n + length log) more)) (append_assoc before (with_end line) (joined front))
    inner ops (Err g) is f on = cc

    go : (r : Result (List Operation) Refusal) → (r >>= λ ops. behind_log ops (log_told next (n + length ops) front)) ≡ Ok log
        → ((ops ys : List Operation) → log_told next (n + length ops) front ≡ Ok ys
        → log_told next (n + length ops) (front ++ more)
        ≡ behind_log ys (log_told (next ++ joined front) (n + length ops + length ys) more))
        → (r >>= λ ops. behind_log ops (log_told next (n + length ops) (front ++ more)))
        ≡ behind_log log (log_told (before ++ joined (line ∷ front)) (n + length log) more)
    go (Ok ops) f on = inner ops (log_told next (n + length ops) front) refl f (on ops)
    go (Err g) f on = cc

pub told_both : (before : List ℕ) (n : ℕ) (front more : List (List ℕ)) (log xs : List Operation) → log_told before n front ≡ Ok log
    → log_told (before ++ joined front) (n + length log) more ≡ Ok xs → log_told before n (front ++ more) ≡ Ok (log ++ xs)
told_both before n front more log xs e f = told-append before n front more log e ∙ ap (behind_log log) f

-- what the lines behind a log tell
pub told_behind : (before : List ℕ) (n : ℕ) (front more : List (List ℕ)) (log total : List Operation) → log_told before n front ≡ Ok log
    → log_told before n (front ++ more) ≡ Ok total
    → (xs : List Operation) × (log_told (before ++ joined front) (n + length log) more ≡ Ok xs) × (log ++ xs ≡ total)
told_behind before n front more log total e f =
    go (log_told (before ++ joined front) (n + length log) more) refl (sym (told-append before n front more log e) ∙ f)
  where
    go : (r : Result (List Operation) Refusal) → log_told (before ++ joined front) (n + length log) more ≡ r → behind_log log r ≡ Ok total
        → (xs : List Operation) × (log_told (before ++ joined front) (n + length log) more ≡ Ok xs) × (log ++ xs ≡ total)
    go (Ok xs) is g = (xs, is, cc)
    go (Err w) is g = cc

-- what the first line tells, and what those behind it tell
pub told_first : (before : List ℕ) (n : ℕ) (line : List ℕ) (lines : List (List ℕ)) (total : List Operation)
    → log_told before n (line ∷ lines) ≡ Ok total
    → (ops : List Operation) × (ys : List Operation) × (line_told before n line ≡ Ok ops) × (ops ++ ys ≡ total)
told_first before n line lines total e = go (line_told before n line) refl e
  where
    next : List ℕ
    next = before ++ with_end line

    inner : (ops : List Operation) (s : Result (List Operation) Refusal) → line_told before n line ≡ Ok ops → behind_log ops s ≡ Ok total
        → (ops : List Operation) × (ys : List Operation) × (line_told before n line ≡ Ok ops) × (ops ++ ys ≡ total)
    inner ops (Ok ys) is f = (ops, ys, is, cc)
    inner ops (Err g) is f = cc

    go : (r : Result (List Operation) Refusal) → line_told before n line ≡ r
        → (r >>= λ ops. behind_log ops (log_told next (n + length ops) lines)) ≡ Ok total
        → (ops : List Operation) × (ys : List Operation) × (line_told before n line ≡ Ok ops) × (ops ++ ys ≡ total)
    go (Ok ops) is f = inner ops (log_told next (n + length ops) lines) is f
    go (Err g) is f = cc

-- one line alone
pub told_one : (before : List ℕ) (n : ℕ) (line : List ℕ) (ops : List Operation) → line_told before n line ≡ Ok ops
    → log_told before n (line ∷ []) ≡ Ok ops
told_one before n line ops e =
    ap (λ r. r >>= λ xs. behind_log xs (log_told (before ++ with_end line) (n + length xs) [])) e ∙ ap Ok (append-nil ops)

-- the next operations of a lawful log may follow those before them
pub no_part : (front ys zs log : List Operation) → (front ++ ys) ++ zs ≡ log → IsLawful log → length log ≤ 131072
    → (GoesOn front ys → length front + length ys ≤ 131072 → ⊥) → ⊥
no_part front ys zs log e lawful few not =
    let both : take (length (front ++ ys)) log ≡ front ++ ys =
    ap (take (length (front ++ ys))) (sym e) ∙ take-append_seam (front ++ ys) zs in
    not (goes_on_after [] front ys (subst IsLawful both (IsLawful-take log (length (front ++ ys)) lawful)))
    (omega (arith, few, ap (length {A = Operation}) e, length-append (front ++ ys) zs, length-append front ys))

-- ---- the lines of parts

-- the text of a part tells it
part_told_back : (before : List ℕ) (n : ℕ) (ops : List Operation) → n < 2 ^ 32 → FitsLine ops
    → line_told before n (text (Ops n ops)) ≡ Ok ops
part_told_back before n ops h p =
    ap (λ t. cond t (Ok []) (next_part n (text (Ops n ops)))) (no_digest n ops before)
    ∙ ap (λ r. r >>= part_from n) (part_reads_back n ops (h, p.in_range) p.few) ∙ rw (eq-eqb n n refl) refl

-- the digest of what is before it tells nothing more
digest_told_back : (before : List ℕ) (n : ℕ) → line_told before n (digest_line before) ≡ Ok []
digest_told_back before n =
    ap (λ t. cond t (Ok []) (next_part n (digest_line before))) (same_bytes (digest_line before))

-- the lines of a part are two
two_lines : (before : List ℕ) (n : ℕ) (p : List Operation) (rest : List ℕ) → n < 2 ^ 32 → FitsLine p
    → whole_lines (part_lines before n p ++ rest)
    ≡ text (Ops n p) ∷ (digest_line (before ++ with_end (text (Ops n p))) ∷ whole_lines rest)
two_lines before n p rest small fits =
    let told = text (Ops n p) in
    let digest = digest_line (before ++ with_end told) in
    ap whole_lines (append_assoc (with_end told) (with_end digest) rest ∙ append_assoc told (10 ∷ []) (with_end digest ++ rest))
    ∙ whole-line told (with_end digest ++ rest) (part_line n p small fits.in_range)
    ∙ ap (λ (ls : List (List ℕ)). told ∷ ls)
    (ap whole_lines (append_assoc digest (10 ∷ []) rest) ∙ whole-line digest rest (digest_is_line (before ++ with_end told)))

pub parts_told : (before : List ℕ) (n : ℕ) (parts : List (List Operation)) → AllByRecursion FitsLine parts
    → n + length (concatenated parts) ≤ 131072
    → log_told before n (whole_lines (lines_of before n parts)) ≡ Ok (concatenated parts)
parts_told before n [] h few = refl
parts_told before n (p ∷ ps) h few =
    let size : length (concatenated (p ∷ ps)) ≡ length p + length (concatenated ps) = length-append p (concatenated ps) in
    let small : n < 2 ^ 32 = omega (arith, few) in
    let told = text (Ops n p) in
    let mid = before ++ with_end told in
    let next = before ++ part_lines before n p in
    let rest = whole_lines (lines_of next (n + length p) ps) in
    let on : mid ++ with_end (digest_line mid) ≡ next = append_assoc before (with_end told) (with_end (digest_line mid)) in
    let last : log_told (mid ++ with_end (digest_line mid)) (n + length p + 0) rest ≡ Ok (concatenated ps) =
    ap (λ (b : List ℕ). log_told b (n + length p + 0) rest) on ∙ ap (λ k. log_told next k rest) (add-zero (n + length p))
    ∙ parts_told next (n + length p) ps h.1 (omega (arith, few, size)) in
    ap (log_told before n) (two_lines before n p (lines_of next (n + length p) ps) small h.0)
    ∙ ap (λ r. r >>= λ ops. behind_log ops (log_told mid (n + length ops) (digest_line mid ∷ rest))) (part_told_back before n p small h.0)
    ∙ ap (behind_log p)
    (ap (λ r. r >>= λ ops. behind_log ops (log_told (mid ++ with_end (digest_line mid)) (n + length p + length ops) rest))
    (digest_told_back mid (n + length p)) ∙ ap (behind_log []) last)
