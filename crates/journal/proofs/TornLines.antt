-- What bytes stand for that are cut short, or have a torn tail.
use Rattle.std.proofs.Common.{◌≡◌, ℕ, ◌+◌, ◌≤◌, true, false, cond, List, [], ◌∷◌, ◌++◌, length, take, drop, Ok}
use Rattle.std.proofs.Common.{refl, sym, ap, ◌∙◌, subst, arith}
use Rattle.std.proofs.Common.{length-append}
use Rattle.std.proofs.lemmas.List.{take-append-drop}
use Rattle.std.proofs.Math.Seq.{take-append_seam}
use lib.Dec.{eqb}
use Rattle.opid.specs.Operations.{Operation}
use Rattle.opid.proofs.Logs.{IsLawful-take}
use Rattle.wire_json.specs.Line.{IsLine}
use Rattle.journal.specs.Journal.{IsEnded, behind_byte, whole_lines, log_told, TellLog, StandsFor}
use Rattle.journal.proofs.Cutting.{whole-none, whole-append}
use Rattle.journal.proofs.Digests.{joined}
use Rattle.journal.proofs.Telling.{told_both, told_behind, told_first, told_one}

-- ---- lines

behind_more : (b : ℕ) (lines more : List (List ℕ)) → (rest : List (List ℕ)) × (behind_byte b (lines ++ more) ≡ behind_byte b lines ++ rest)
behind_more b [] more = (behind_byte b more, refl)
behind_more b (l ∷ ls) more = (more, refl)

-- the whole lines of a beginning are the first lines
pub lines_front : (a b : List ℕ) → (more : List (List ℕ)) × (whole_lines (a ++ b) ≡ whole_lines a ++ more)
lines_front [] b = (whole_lines b, refl)
lines_front (x ∷ a) b =
    let ih = lines_front a b in
    elim (eqb x 10) as (λ t. (more : List (List ℕ)) × (cond t ([] ∷ whole_lines (a ++ b)) (behind_byte x (whole_lines (a ++ b))) ≡ cond t
    ([] ∷ whole_lines a) (behind_byte x (whole_lines a)) ++ more)) [
      | true ↦ (ih.0, ap (λ (ls : List (List ℕ)). [] ∷ ls) ih.1)
      | false ↦ let w = behind_more x (whole_lines a) ih.0 in (w.0, ap (behind_byte x) ih.1 ∙ w.1)
    ]

-- bytes with no LF at the end make no line
pub lines_behind : (a last : List ℕ) → IsLine last → whole_lines (a ++ last) ≡ whole_lines a
lines_behind [] last h = whole-none last h
lines_behind (x ∷ a) last h = ap (λ ls. cond (eqb x 10) ([] ∷ ls) (behind_byte x ls)) (lines_behind a last h)

-- ---- what they tell

pub told_front : (before : List ℕ) (n : ℕ) (a b : List (List ℕ)) (total : List Operation) → log_told before n (a ++ b) ≡ Ok total
    → (ops : List Operation) × (log_told before n a ≡ Ok ops)
told_front before n [] b total e = ([], refl)
told_front before n (line ∷ a) b total e =
    let f = told_first before n line (a ++ b) total e in
    let one = told_one before n line f.0 f.2 in
    let rest = told_behind before n (line ∷ []) (a ++ b) f.0 total one e in
    let ih = told_front (before ++ joined (line ∷ [])) (n + length f.0) a b rest.0 rest.1 in
    (f.0 ++ ih.0, told_both before n (line ∷ []) a f.0 ih.0 one ih.1)

-- the first of lines that tell a log tell a beginning of it
pub front_tells : (a b : List (List ℕ)) (log : List Operation) → TellLog (a ++ b) log
    → (count : ℕ) × (count ≤ length log) × TellLog a (take count log)
front_tells a b log t =
    let front = told_front [] 0 a b log t.told in
    let rest = told_behind [] 0 a b front.0 log front.1 t.told in
    let size : length front.0 ≤ length log = omega (arith, length-append front.0 rest.0, ap (length {A = Operation}) rest.2) in
    let is : take (length front.0) log ≡ front.0 = ap (take (length front.0)) (sym rest.2) ∙ take-append_seam front.0 rest.0 in (
      length front.0,
      size,
      record {
        told = front.1 ∙ ap Ok (sym is);
        lawful = IsLawful-take log (length front.0) t.lawful;
        few = omega (arith, t.few, size, ap (length {A = Operation}) is);
      },
    )

pub fronts : (n : ℕ) (bytes : List ℕ) (log : List Operation) → StandsFor bytes log
    → (count : ℕ) × (count ≤ length log) × StandsFor (take n bytes) (take count log)
fronts n bytes log s =
    let lines = lines_front (take n bytes) (drop n bytes) in
    front_tells (whole_lines (take n bytes)) lines.0 log
    (subst (λ ls. TellLog ls log) (ap whole_lines (sym (take-append-drop n bytes)) ∙ lines.1) s)

pub behind : (bytes last : List ℕ) (log : List Operation) → IsLine last → StandsFor bytes log → StandsFor (bytes ++ last) log
behind bytes last log h s = subst (λ ls. TellLog ls log) (sym (lines_behind bytes last h)) s

pub adds : (front rest : List ℕ) (log more : List Operation) → IsEnded front → StandsFor front log → StandsFor (front ++ rest) more
    → (length log ≤ length more) × (log ≡ take (length log) more)
adds front rest log more e s t =
    let b = told_behind [] 0 (whole_lines front) (whole_lines rest) log more s.told (ap (log_told [] 0) (sym (whole-append front rest e))
    ∙ t.told) in
    let is : take (length log) more ≡ log = ap (take (length log)) (sym b.2) ∙ take-append_seam log b.0 in
    (omega (arith, length-append log b.0, ap (length {A = Operation}) b.2), sym is)
