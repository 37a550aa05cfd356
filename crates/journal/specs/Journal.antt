-- Which log a journal's bytes stand for: lines of JSON (RFC 8259), each an object that tells a part of the log, one after another, or
-- the digest of all bytes before it. The format is the server's own.
use Rattle.std.specs.Prelude.{◌≡◌, ◌≤◌, ◌+◌, ◌-◌, ◌==◌, ◌⊎◌, ℕ, if◌then◌else◌, Result, Ok, Err, List, [], ◌∷◌, ◌++◌, length, take, drop}
use Rattle.std.specs.Prelude.{codes, bytes_eq}
use Rattle.std.specs.List.{AllByRecursion}
use Rattle.opid.specs.declared.limits.TheConstants.{MAX_COUNT, MAX_OPERATIONS}
use Rattle.hex.specs.Hex.{encode_lower}
use Rattle.sha2.specs.Sha256.{sha256}
use Rattle.opid.specs.declared.refusal.Refusal.{Refusal}
use Rattle.opid.specs.declared.refusal.Refusal.TheVariants.{BadField}
use Rattle.opid.specs.Operations.{Operation}
use Rattle.opid.specs.Lawful.{IsLawful}
use Rattle.room_model.specs.declared.reply.Reply.TheVariants.{Ops}
use Rattle.operation_json.specs.Members.{◌>>=◌}
use Rattle.operation_json.specs.PackedOperations.{concatenated}
use Rattle.operation_json.specs.Text.{IsOperationInRange}
use Rattle.wire_json.specs.Line.{IsLine}
use Rattle.wire_json.specs.Part.{part_told}
use Rattle.wire_json.specs.Text.{text}
use Rattle.journal.specs.declared.fault.JournalFault.{JournalFault}
use Rattle.journal.specs.declared.fault.JournalFault.TheVariants.{Memory, Line}

-- ---- lines: they end with LF, which is the byte 10

-- there are no bytes, or the last one is LF
abbrev pub IsEnded : List ℕ → Type 0
IsEnded bytes = (bytes ≡ []) ⊎ ((front : List ℕ) × (bytes ≡ front ++ 10 ∷ []))

-- the first line, if there is one, with the byte before it
abbrev pub behind_byte : ℕ → List (List ℕ) → List (List ℕ)
behind_byte byte [] = []
behind_byte byte (line ∷ lines) = (byte ∷ line) ∷ lines

-- the lines of bytes that end with LF, without it; what stands behind the last LF is none
abbrev pub whole_lines : List ℕ → List (List ℕ)
whole_lines [] = []
whole_lines (byte ∷ bytes) = if byte == 10 then [] ∷ whole_lines bytes else behind_byte byte (whole_lines bytes)

-- the whole lines of the bytes take the first n of them
pub record EndsLines (n : ℕ) (bytes : List ℕ) : Type 0 where
  pub within : n ≤ length bytes
  pub ended : IsEnded (take n bytes)
  pub last : IsLine (drop n bytes)

-- ---- the log that lines tell

-- the line that tells the SHA-256 of these bytes (FIPS 180-4) in lower-case hex digits
abbrev pub digest_line : List ℕ → List ℕ
digest_line bytes = codes "{\"sha256\":\"" ++ encode_lower (sha256 bytes) ++ codes "\"}"

-- the operations of a part, whose first has to have this number
abbrev pub part_from : ℕ → ℕ × List Operation → Result (List Operation) Refusal
part_from n part = if part.0 == n then Ok part.1 else Err BadField

-- the operations of the part that a line tells, of which the first has this number
abbrev pub next_part : ℕ → List ℕ → Result (List Operation) Refusal
next_part n line = part_told line >>= part_from n

-- the same of a line behind these bytes: none where it is the digest of the bytes
abbrev pub line_told : List ℕ → ℕ → List ℕ → Result (List Operation) Refusal
line_told before n line = if bytes_eq line (digest_line before) then Ok [] else next_part n line

-- a line with its LF
abbrev pub with_end : List ℕ → List ℕ
with_end line = line ++ 10 ∷ []

-- the operations that lines tell behind these bytes, one part after another, of which the first begins with this number
abbrev pub log_told : List ℕ → ℕ → List (List ℕ) → Result (List Operation) Refusal
log_told before n [] = Ok []
log_told before n (line ∷ lines) = do
  ops ← line_told before n line
  more ← log_told (before ++ with_end line) (n + length ops) lines
  Ok (ops ++ more)

-- the lines tell this log, which is lawful and has at most 131,072 operations
pub record TellLog (lines : List (List ℕ)) (log : List Operation) : Type 0 where
  pub told : log_told [] 0 lines ≡ Ok log
  pub lawful : IsLawful log
  pub few : length log ≤ MAX_OPERATIONS

-- the lines tell no log
abbrev pub TellNone : List (List ℕ) → Type 0
TellNone lines = (log : List Operation) → TellLog lines log → ⊥

-- the bytes stand for the log
abbrev pub StandsFor : List ℕ → List Operation → Type 0
StandsFor bytes log = TellLog (whole_lines bytes) log

-- the bytes stand for no log
abbrev pub StandsForNone : List ℕ → Type 0
StandsForNone bytes = TellNone (whole_lines bytes)

-- the line of this number, from 1 on, is the first with which the lines tell no log
pub record IsFirstFault (n : ℕ) (lines : List (List ℕ)) : Type 0 where
  pub first : 1 ≤ n
  pub within : n ≤ length lines
  pub before : (log : List Operation) × TellLog (take (n - 1) lines) log
  pub none : TellNone (take n lines)

-- the fault is that of the bytes
abbrev pub IsFaultOf : List ℕ → JournalFault → Type 0
IsFaultOf bytes Memory = Unit {0}
IsFaultOf bytes (Line n) = IsFirstFault n (whole_lines bytes)

-- ---- the lines of operations

-- the two lines of a part behind these bytes: the text of an `ops` reply, and the digest of all bytes up to behind it
abbrev pub part_lines : List ℕ → ℕ → List Operation → List ℕ
part_lines before n part = with_end (text (Ops n part)) ++ with_end (digest_line (before ++ with_end (text (Ops n part))))

-- the lines of parts behind these bytes, of which the first begins with this number
abbrev pub lines_of : List ℕ → ℕ → List (List Operation) → List ℕ
lines_of before n [] = []
lines_of before n (part ∷ parts) =
    part_lines before n part ++ lines_of (before ++ part_lines before n part) (n + length part) parts

-- 1 to 64 operations, which are within their ranges
pub record FitsLine (ops : List Operation) : Type 0 where
  pub some : 1 ≤ length ops
  pub few : length ops ≤ MAX_COUNT
  pub in_range : AllByRecursion IsOperationInRange ops

-- the bytes are the lines of these operations in parts, behind bytes that were before them, and the first has this number
pub record AreLinesOf (before : List ℕ) (n : ℕ) (ops : List Operation) (bytes : List ℕ) : Type 0 where
  pub parts : List (List Operation)
  pub whole : concatenated parts ≡ ops
  pub each : AllByRecursion FitsLine parts
  pub written : bytes ≡ lines_of before n parts
