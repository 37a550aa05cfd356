-- What is served for lines, of whatever kind: `answers old line text new` says that the text is an answer to the line, which
-- leads from one state to the other. Each line gives one text, in turn. The channel is the server's own.
use Rattle.std.specs.Prelude.{◌≡◌, ◌⊎◌, ℕ, ◌<◌, List, [], ◌∷◌, ◌++◌, All, length, Option, Result, Ok, Err}
use Rattle.std.specs.List.{flat_map}
use Rattle.std.specs.Io.KnownBytes.{IsAtEnd}
use Rattle.wire_json.specs.Line.{IsLine}
use Rattle.line_engine.specs.Lines.{FallsShort, ended, cut}
use Rattle.line_engine.specs.LineBytes.{TellsNoRefusal}
use Rattle.line_engine.specs.declared.fault.ServeFault.{ServeFault}
use Rattle.line_engine.specs.declared.fault.ServeFault.TheVariants.{Read, Write, Memory}

-- an answer to each line, in turn
abbrev pub AreAnswered : {S : Type 0} → (S → List ℕ → List ℕ → S → Type 0) → S → List (List ℕ) → List (List ℕ) → S → Type 0
AreAnswered answers old [] [] new = new ≡ old
AreAnswered {S} answers old (line ∷ lines) (text ∷ texts) new =
    (mid : S) × answers old line text mid × AreAnswered answers mid lines texts new
AreAnswered answers old [] (text ∷ texts) new = ⊥
AreAnswered answers old (line ∷ lines) [] new = ⊥

-- all lines were answered, and all that was written is their answers
abbrev pub ServesAll : {S : Type 0} → (S → List ℕ → List ℕ → S → Type 0) → S → List ℕ → List ℕ → S → Type 0
ServesAll answers old got written new =
    (texts : List (List ℕ)) × AreAnswered answers old (cut got) texts new × (written ≡ flat_map ended texts)

-- the whole lines were answered, and what follows the last is less than a line
abbrev pub ServesWhole : {S : Type 0} → (S → List ℕ → List ℕ → S → Type 0) → S → List ℕ → List ℕ → S → Type 0
ServesWhole answers old got written new =
    (lines : List (List ℕ)) × (rest : List ℕ) × (texts : List (List ℕ))
    × All IsLine lines × IsLine rest × (got ≡ flat_map ended lines ++ rest)
    × AreAnswered answers old lines texts new × (written ≡ flat_map ended texts)

-- the bytes are some lines, each with its LF, and one more: with its LF and bytes after it, or without, where the input has none left
abbrev pub Reaches : Option (List ℕ) → List ℕ → List (List ℕ) → List ℕ → Type 0
Reaches left got lines line =
    All IsLine lines × IsLine line
    × (((rest : List ℕ) × (got ≡ flat_map ended lines ++ (line ++ 10 ∷ rest)))
    ⊎ ((0 < length line) × (got ≡ flat_map ended lines ++ line) × IsAtEnd left))

-- the first lines were answered, and one more by this text, of whose line only these bytes were sent
abbrev pub ServesPart : {S : Type 0} → (S → List ℕ → List ℕ → S → Type 0) → S → List ℕ → Option (List ℕ) → List ℕ → List ℕ → List ℕ → S
    → Type 0
ServesPart {S} answers old got left written text sent new =
    (lines : List (List ℕ)) × (line : List ℕ) × (texts : List (List ℕ)) × (mid : S)
    × Reaches left got lines line × AreAnswered answers old lines texts mid × answers mid line text new
    × (written ≡ flat_map ended texts ++ sent) × FallsShort sent (ended text)

-- what was served of the bytes that were read, at each end; `left` is what the reader has left, where it tells. A refusal never ends it
-- for want of memory
abbrev pub Serves : {S T : Type 0} → (S → List ℕ → List ℕ → S → Type 0) → S → List ℕ → Option (List ℕ) → List ℕ → Result T ServeFault → S
    → Type 0
Serves answers old got left written (Ok done) new = ServesAll answers old got written new × IsAtEnd left
Serves answers old got left written (Err Read) new = ServesWhole answers old got written new
Serves answers old got left written (Err Write) new =
    (text : List ℕ) × (sent : List ℕ) × ServesPart answers old got left written text sent new
Serves answers old got left written (Err Memory) new =
    (text : List ℕ) × TellsNoRefusal text × ServesPart answers old got left written text [] new

-- there was no memory for the buffer, and nothing was read or written
pub record StartsNot {S T : Type 0} (old : S) (got written : List ℕ) (result : Result T ServeFault) (new : S) : Type 0 where
  pub cause : result ≡ Err Memory
  pub unread : got ≡ []
  pub unwritten : written ≡ []
  pub same : new ≡ old
