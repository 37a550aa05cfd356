-- What holds between the parts of the engine, over one line.
use Rattle.std.specs.Prelude.{◌≡◌, ℕ, ◌+◌, ◌-◌, ◌*◌, ◌^◌, ◌<◌, ◌≤◌, List, [], ◌∷◌, ◌++◌, length, Bool, true, false, Option, None, Some}
use Rattle.std.specs.Prelude.{Result, Ok, Err}
use Rattle.line_engine.specs.LineBytes.{TellsNoRefusal}
use Rattle.wire_json.specs.Line.{IsLine}
use Rattle.line_engine.specs.Lines.{FallsShort, ended}
use Rattle.line_engine.specs.ServedLines.{ServesAll, Serves}
use Rattle.std.specs.Io.KnownBytes.{IsAtEnd, Consumes, Appends}
use Rattle.line_engine.specs.declared.fault.ServeFault.{ServeFault}
use Rattle.line_engine.specs.declared.fault.ServeFault.TheVariants.{Read, Write, Memory}
use Rattle.line_engine.specs.declared.window.Next.{Next}
use Rattle.line_engine.specs.declared.window.Next.TheVariants.{Line, Long, Last, LastLong}

-- what is left to do: it falls with each read and with each byte that is served
abbrev pub work : ℕ → List ℕ → ℕ
work calls held = (2 ^ 64 - calls) * 131137 + length held

-- how the bytes at hand, with those that were read, give the next line, and which are held after it
abbrev pub Cuts : ℕ → List ℕ → Option Next → List ℕ → Type 0
Cuts limit all None held = IsLine all
Cuts limit all (Some (Line n)) held =
    (held ≡ all) × (n ≤ limit) × ((line : List ℕ) × (more : List ℕ) × (all ≡ line ++ 10 ∷ more) × IsLine line × (length line ≡ n))
Cuts limit all (Some Long) held = (line : List ℕ) × (all ≡ line ++ 10 ∷ held) × IsLine line × (limit < length line)
Cuts limit all (Some (Last n)) held = (held ≡ all) × IsLine all × (length all ≡ n)
Cuts limit all (Some LastLong) held = IsLine all × (limit < length all)

-- the input ends where the line was the last
abbrev pub EndsAtLast : Option Next → Option (List ℕ) → Type 0
EndsAtLast (Some (Last n)) remaining = IsAtEnd remaining
EndsAtLast (Some LastLong) remaining = IsAtEnd remaining
EndsAtLast (Some (Line n)) remaining = Unit {0}
EndsAtLast (Some Long) remaining = Unit {0}
EndsAtLast None remaining = Unit {0}

-- a read added bytes, none at the end alone, or failed
abbrev pub Fills : Option (List ℕ) → Option (List ℕ) → List ℕ → Option ℕ → List ℕ → Type 0
Fills before after old None new = Consumes before after [] × (new ≡ old)
Fills before after old (Some n) new =
    (got : List ℕ) × Consumes before after got × (new ≡ old ++ got) × (length got ≡ n) × (n ≡ 0 → IsAtEnd after)

-- one turn over the bytes at hand, with those that were read: a line is served, or the engine ends
abbrev pub Turn : {S : Type 0} → (S → List ℕ → List ℕ → S → Type 0) → S → List ℕ → Option (List ℕ) → List ℕ → List ℕ
    → Result Bool ServeFault → S → Type 0
Turn answers old all left held written (Ok true) new =
    (line : List ℕ) × (text : List ℕ) × (all ≡ line ++ 10 ∷ held) × IsLine line
    × answers old line text new × (written ≡ ended text)
Turn answers old all left held written (Ok false) new = ServesAll answers old all written new × IsAtEnd left
Turn answers old all left held written (Err why) new = Serves {T = Bool} answers old all left written (Err why) new

-- the answer's line was written whole; or some of it is missing, at a fault of the writer; or none of it was written, for want of
-- memory, which no refusal needs
abbrev pub SentOn : {T : Type 0} → Option (List ℕ) → Option (List ℕ) → List ℕ → Result T ServeFault → Type 0
SentOn before after answer (Ok done) = Appends before after (ended answer)
SentOn before after answer (Err Read) = ⊥
SentOn before after answer (Err Write) = (sent : List ℕ) × Appends before after sent × FallsShort sent (ended answer)
SentOn before after answer (Err Memory) = Appends before after [] × TellsNoRefusal answer

-- how the bytes that were read end a line that was too long
abbrev pub Skips : List ℕ → Option Next → List ℕ → Type 0
Skips got None held = IsLine got
Skips got (Some Long) held = (line : List ℕ) × (got ≡ line ++ 10 ∷ held) × IsLine line
Skips got (Some LastLong) held = IsLine got
Skips got (Some (Line n)) held = ⊥
Skips got (Some (Last n)) held = ⊥

-- whether the engine goes on, once an answer was sent
abbrev pub after_sending : {T : Type 0} → Result T ServeFault → Bool → Result Bool ServeFault
after_sending (Ok done) more = Ok more
after_sending (Err why) more = Err why
