-- The rounds of the engine, over the bytes that are known.
use Rattle.std.proofs.Common.{ℕ, List, [], ◌∷◌, ◌++◌, All, Option, Bool, true, Result, Ok, Err, sym, ap, subst, ◌∙◌, append_assoc, ◌≡◌}
use Rattle.std.specs.List.{flat_map}
use Rattle.std.specs.Io.KnownBytes.{Consumes, Appends}
use Rattle.std.proofs.lemmas.List.Elements.{All-push}
use Rattle.wire_json.specs.Line.{IsLine}
use Rattle.line_engine.specs.Lines.{ended}
use Rattle.line_engine.specs.ServedLines.{AreAnswered, Serves}
use Rattle.line_engine.specs.Internal.Turns.{Turn}
use Rattle.line_engine.specs.declared.fault.ServeFault.{ServeFault}
use Rattle.line_engine.specs.declared.fault.ServeFault.TheVariants.{Read, Write, Memory}
use Rattle.line_engine.proofs.Known.{Consumes-then, Appends-then}
use Rattle.line_engine.proofs.Cutting.{ended-more}
use Rattle.line_engine.proofs.Serving.{AreAnswered-more, Serves-after, ended-cut}

-- what was held at first and what was read are the lines that were answered, and what is held
abbrev pub HasServed : {S : Type 0} → (S → List ℕ → List ℕ → S → Type 0) → S → S → Option (List ℕ) → Option (List ℕ) → Option (List ℕ)
    → Option (List ℕ) → List ℕ → List ℕ → Type 0
HasServed answers old mid a b p q start held =
    (lines : List (List ℕ)) × (texts : List (List ℕ)) × (got : List ℕ) × All IsLine lines × AreAnswered answers old lines texts mid
    × Consumes a b got × (start ++ got ≡ flat_map ended lines ++ held) × Appends p q (flat_map ended texts)

-- a turn that goes on
pub round_on : {S : Type 0} (answers : S → List ℕ → List ℕ → S → Type 0) (old mid new : S)
    (a b d p q r : Option (List ℕ)) (start held held' : List ℕ)
    → HasServed answers old mid a b p q start held
    → ((got : List ℕ) × (written : List ℕ) × Consumes b d got × Appends q r written
    × Turn answers mid (held ++ got) d held' written (Ok true) new)
    → HasServed answers old new a d p r start held'
round_on answers old mid new a b d p q r start held held' (lines, texts, before, each, s, c, cut, w)
    (got, written, c', w', (line, text, is, plain, said, e)) = (
      lines ++ line ∷ [],
      texts ++ text ∷ [],
      before ++ got,
      All-push IsLine lines line each plain,
      AreAnswered-more answers old mid new lines texts line text s said,
      Consumes-then a b d before got c c',
      sym (append_assoc start before got) ∙ ap (λ t. t ++ got) cut ∙ ended-cut lines line held got held' is,
      (let Q : List ℕ → Type 0 = λ t. Appends p r t in
          subst Q (ap (λ t. flat_map ended texts ++ t) e ∙ sym (ended-more texts text))
          (Appends-then p q r (flat_map ended texts) written w w')),
    )

-- a turn that ends the engine
pub round_last : {S T : Type 0} (answers : S → List ℕ → List ℕ → S → Type 0) (old mid new : S)
    (a b d p q r : Option (List ℕ)) (start held : List ℕ) (end : Result T ServeFault)
    → HasServed answers old mid a b p q start held
    → ((got : List ℕ) × (written : List ℕ) × Consumes b d got × Appends q r written × Serves answers mid (held ++ got) d written end new)
    → (got : List ℕ) × (written : List ℕ) × Consumes a d got × Appends p r written × Serves answers old (start ++ got) d written end new
round_last answers old mid new a b d p q r start held end (lines, texts, before, each, s, c, cut, w) (got, written, c', w', serves) =
    let all : start ++ (before ++ got) ≡ flat_map ended lines ++ (held ++ got) =
    sym (append_assoc start before got) ∙ ap (λ t. t ++ got) cut ∙ append_assoc (flat_map ended lines) held got in (
      before ++ got,
      flat_map ended texts ++ written,
      Consumes-then a b d before got c c',
      Appends-then p q r (flat_map ended texts) written w w',
      (let P : List ℕ → Type 0 = λ t. Serves answers old t d (flat_map ended texts ++ written) end new in
          subst P (sym all) (Serves-after answers old mid new lines texts (held ++ got) d written end each s serves)),
    )

-- a fault is the same in a turn and in the whole
pub Serves-err : {S : Type 0} (answers : S → List ℕ → List ℕ → S → Type 0) (old new : S) (all : List ℕ) (left : Option (List ℕ))
    (written : List ℕ) (why : ServeFault)
    → Serves {T = Bool} answers old all left written (Err why) new → Serves {T = Unit {0}} answers old all left written (Err why) new
Serves-err answers old new all left written Read h = h
Serves-err answers old new all left written Write h = h
Serves-err answers old new all left written Memory h = h
