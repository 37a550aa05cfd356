-- What a loop over the lines of a journal knows.
use Rattle.std.proofs.Common.{◌≡◌, ℕ, ◌+◌, ◌-◌, ◌<◌, ◌≤◌, inl, inr, List, [], ◌∷◌, ◌++◌, length, take, drop, Ok, refl, sym, ap, ◌∙◌, subst}
use Rattle.std.proofs.Common.{arith}
use Rattle.std.proofs.Common.{append_assoc, append-nil, length-append, length-drop, zero-add, lit≤}
use Rattle.std.proofs.Math.Seq.{take-append_seam, take-add}
use Rattle.std.proofs.lemmas.List.{drop-drop, take-append-drop, length-take-le}
use Rattle.opid.specs.Operations.{Operation}
use Rattle.opid.specs.Lawful.{IsLawful, GoesOn}
use Rattle.opid.proofs.Gathered.{take_none}
use Rattle.wire_json.specs.Line.{IsLine}
use Rattle.journal.specs.Journal.{IsEnded, EndsLines, whole_lines, line_told, with_end, TellLog, TellNone, StandsFor, StandsForNone}
use Rattle.journal.specs.Journal.{IsFirstFault}
use Rattle.journal.proofs.Cutting.{whole-line, whole-none, whole-append}
use Rattle.journal.proofs.Digests.{joined, joined-append}
use Rattle.journal.proofs.Telling.{told_both, told_behind, told_first, told_one, no_part}

-- the first k lines of the bytes take the first `at` of them, and tell this log
pub record Reads (bytes : List ℕ) (at k : ℕ) (log : List Operation) : Type 0 where
  pub within : at ≤ length bytes
  pub ended : IsEnded (take at bytes)
  pub done : List (List ℕ)
  pub count : length done ≡ k
  pub few : k ≤ at
  pub cut : whole_lines bytes ≡ done ++ whole_lines (drop at bytes)
  pub before : joined done ≡ take at bytes
  pub tells : TellLog done log

pub no_log : TellLog [] []
no_log = record { told = refl; lawful = tt; few = lit≤ tt }

drop_none : (xs : List ℕ) → drop 0 xs ≡ xs
drop_none [] = refl
drop_none (x ∷ xs) = refl

pub reads_none : (bytes : List ℕ) (log : List Operation) → log ≡ [] → Reads bytes 0 0 log
reads_none bytes log e = record {
  within = omega arith;
  ended = inl (take_none bytes 0 refl);
  done = [];
  count = refl;
  few = omega arith;
  cut = ap whole_lines (sym (drop_none bytes));
  before = sym (take_none bytes 0 refl);
  tells = subst (TellLog []) (sym e) no_log;
}

-- ---- the next line

-- the bytes from a place on begin with this line and its LF
pub record IsNext (bytes : List ℕ) (at len : ℕ) (line : List ℕ) : Type 0 where
  pub is : line ≡ take len (drop at bytes)
  pub within : len < length (drop at bytes)
  pub plain : IsLine (take len (drop at bytes))
  pub cut : drop at bytes ≡ take len (drop at bytes) ++ 10 ∷ drop (len + 1) (drop at bytes)

pub next_line : (bytes : List ℕ) (at len : ℕ) (rest line : List ℕ) → rest ≡ drop at bytes → line ≡ take len (drop at bytes)
    → len < length rest → IsLine (take len rest) → rest ≡ take len rest ++ 10 ∷ drop (len + 1) rest → IsNext bytes at len line
next_line bytes at len rest line e is within plain cut = record {
  is = is;
  within = subst (λ (r : List ℕ). len < length r) e within;
  plain = subst (λ (r : List ℕ). IsLine (take len r)) e plain;
  cut = subst (λ (r : List ℕ). r ≡ take len r ++ 10 ∷ drop (len + 1) r) e cut;
}

-- the line is cut off
lines_cut : (bytes : List ℕ) (at k len : ℕ) (line : List ℕ) (log : List Operation) (r : Reads bytes at k log) → IsNext bytes at len line
    → whole_lines bytes ≡ r.done ++ (line ∷ whole_lines (drop (at + (len + 1)) bytes))
lines_cut bytes at k len line log r x =
    r.cut ∙ ap (λ (ls : List (List ℕ)). r.done ++ ls)
    (ap whole_lines x.cut ∙ whole-line (take len (drop at bytes)) (drop (len + 1) (drop at bytes)) x.plain
    ∙ ap (λ (l : List ℕ). l ∷ whole_lines (drop (len + 1) (drop at bytes))) (sym x.is)
    ∙ ap (λ (bs : List ℕ). line ∷ whole_lines bs) (drop-drop (len + 1) at bytes))

-- the bytes up to behind its LF
pub upto_next : (bytes : List ℕ) (at len : ℕ) (line : List ℕ) → IsNext bytes at len line
    → take (at + (len + 1)) bytes ≡ take at bytes ++ with_end line
upto_next bytes at len line x =
    let rest = drop at bytes in
    let size : length (take len rest) ≡ len = length-take-le len rest (omega (arith, x.within)) in
    let longer : len + 1 ≡ length (with_end (take len rest)) = omega (arith, size, length-append (take len rest) (10 ∷ [])) in
    let one : take (len + 1) rest ≡ with_end (take len rest) =
    ap (take (len + 1)) (x.cut ∙ sym (append_assoc (take len rest) (10 ∷ []) (drop (len + 1) rest)))
    ∙ ap (λ n. take n (with_end (take len rest) ++ drop (len + 1) rest)) longer
    ∙ take-append_seam (with_end (take len rest)) (drop (len + 1) rest) in
    take-add at (len + 1) bytes ∙ ap (λ (t : List ℕ). take at bytes ++ t) (one ∙ ap with_end (sym x.is))

ended_more : (bytes : List ℕ) (at len : ℕ) (line : List ℕ) → IsNext bytes at len line → IsEnded (take (at + (len + 1)) bytes)
ended_more bytes at len line x =
    inr (take at bytes ++ line, upto_next bytes at len line x ∙ sym (append_assoc (take at bytes) line (10 ∷ [])))

pub reads_more : (bytes : List ℕ) (at k len : ℕ) (line : List ℕ) (log ops log' : List Operation) → Reads bytes at k log
    → IsNext bytes at len line → line_told (take at bytes) (length log) line ≡ Ok ops → log' ≡ log ++ ops → IsLawful log'
    → length log' ≤ 131072 → Reads bytes (at + (len + 1)) (k + 1) log'
reads_more bytes at k len line log ops log' r x told grown lawful few =
    let both : joined (r.done ++ line ∷ []) ≡ take (at + (len + 1)) bytes =
    joined-append r.done (line ∷ []) ∙ ap (λ (t : List ℕ). joined r.done ++ t) (append-nil (with_end line))
    ∙ ap (λ (t : List ℕ). t ++ with_end line) r.before ∙ sym (upto_next bytes at len line x) in
    record {
      within = omega (arith, x.within, length-drop at bytes);
      ended = ended_more bytes at len line x;
      done = r.done ++ line ∷ [];
      count = omega (arith, length-append r.done (line ∷ []), r.count);
      few = omega (arith, r.few);
      cut = lines_cut bytes at k len line log r x
          ∙ sym (append_assoc r.done (line ∷ []) (whole_lines (drop (at + (len + 1)) bytes)));
      before = both;
      tells = record {
        told = told_both [] 0 r.done (line ∷ []) log ops r.tells.told
            (told_one (joined r.done) (0 + length log) line ops
            (subst (λ n. line_told (joined r.done) n line ≡ Ok ops) (sym (zero-add (length log)))
            (subst (λ (b : List ℕ). line_told b (length log) line ≡ Ok ops) (sym r.before) told)))
            ∙ ap Ok (sym grown);
        lawful = lawful;
        few = few;
      };
    }

-- ---- a line that tells no next part

-- behind these bytes the line tells none that may follow the log
abbrev pub MayNot : List ℕ → List Operation → List ℕ → Type 0
MayNot before log line = (ops : List Operation) → line_told before (length log) line ≡ Ok ops → GoesOn log ops
    → length log + length ops ≤ 131072 → ⊥

none_behind : (done : List (List ℕ)) (line : List ℕ) (rest : List (List ℕ)) (log : List Operation) → TellLog done log
    → MayNot (joined done) log line → TellNone (done ++ (line ∷ rest))
none_behind done line rest log d not = λ total t.
    let b = told_behind [] 0 done (line ∷ rest) log total d.told t.told in
    let f = told_first (joined done) (0 + length log) line rest b.0 b.1 in
    let told = subst (λ n. line_told (joined done) n line ≡ Ok f.0) (zero-add (length log)) f.2 in
    no_part log f.0 f.1 total (append_assoc log f.0 f.1 ∙ ap (λ (l : List Operation). log ++ l) f.3 ∙ b.2) t.lawful t.few (not f.0 told)

-- the bytes stand for no log, and it is the line's fault
pub record IsRefuted (bytes : List ℕ) (n : ℕ) : Type 0 where
  pub fault : IsFirstFault n (whole_lines bytes)
  pub none : StandsForNone bytes

pub refuted : (bytes : List ℕ) (at k len : ℕ) (line : List ℕ) (log : List Operation) → Reads bytes at k log → IsNext bytes at len line
    → MayNot (take at bytes) log line → IsRefuted bytes (k + 1)
refuted bytes at k len line log r x nots =
    let not = subst (λ (b : List ℕ). MayNot b log line) (sym r.before) nots in
    let rest = whole_lines (drop (at + (len + 1)) bytes) in
    let all = lines_cut bytes at k len line log r x in
    let front : take k (whole_lines bytes) ≡ r.done =
    ap (take k) all ∙ ap (λ n. take n (r.done ++ (line ∷ rest))) (sym r.count) ∙ take-append_seam r.done (line ∷ rest) in
    let size : k + 1 ≡ length (r.done ++ line ∷ []) = omega (arith, length-append r.done (line ∷ []), r.count) in
    let upto : take (k + 1) (whole_lines bytes) ≡ r.done ++ line ∷ [] =
    ap (take (k + 1)) (all ∙ sym (append_assoc r.done (line ∷ []) rest))
    ∙ ap (λ n. take n ((r.done ++ line ∷ []) ++ rest)) size ∙ take-append_seam (r.done ++ line ∷ []) rest in
    let one : k + 1 - 1 ≡ k = omega arith in
    record {
      fault = record {
        first = omega arith;
        within = omega (arith, ap (length {A = List ℕ}) all, length-append r.done (line ∷ rest), r.count);
        before = (log, subst (λ ls. TellLog ls log) (sym (ap (λ n. take n (whole_lines bytes)) one ∙ front)) r.tells);
        none = subst TellNone (sym upto) (none_behind r.done line [] log r.tells not);
      };
      none = subst TellNone (sym all) (none_behind r.done line rest log r.tells not);
    }

-- ---- the end

-- behind the last LF the bytes have no line
whole_part : (front last : List ℕ) → IsEnded front → IsLine last → whole_lines (front ++ last) ≡ whole_lines front
whole_part front last e l =
    whole-append front last e ∙ ap (λ (ls : List (List ℕ)). whole_lines front ++ ls) (whole-none last l) ∙ append-nil (whole_lines front)

pub reads_all : (bytes : List ℕ) (at k : ℕ) (log : List Operation) → Reads bytes at k log → IsLine (drop at bytes) → StandsFor bytes log
reads_all bytes at k log r last =
    let all : whole_lines bytes ≡ r.done =
    r.cut ∙ ap (λ (ls : List (List ℕ)). r.done ++ ls) (whole-none (drop at bytes) last) ∙ append-nil r.done in
    subst (λ ls. TellLog ls log) (sym all) r.tells

-- the whole lines alone stand for the same log
pub whole_stands : (n : ℕ) (bytes : List ℕ) (log : List Operation) → EndsLines n bytes → StandsFor bytes log → StandsFor (take n bytes) log
whole_stands n bytes log e s =
    subst (λ ls. TellLog ls log)
    (ap whole_lines (sym (take-append-drop n bytes)) ∙ whole_part (take n bytes) (drop n bytes) e.ended e.last) s
