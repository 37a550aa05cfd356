-- Bytes cut at LF, which is the byte 10: the server's own channel.
use Rattle.std.specs.Prelude.{◌≡◌, ◌==◌, ◌<◌, ℕ, length, List, Option, Bool, true, false, [], ◌∷◌, ◌++◌, if◌then◌else◌}
use Rattle.std.specs.List.{onto_first}
use Rattle.std.specs.Io.KnownBytes.{IsAtEnd}
use Rattle.wire_json.specs.Line.{IsLine}

-- a line with its LF
abbrev pub ended : List ℕ → List ℕ
ended line = line ++ 10 ∷ []

-- the lines of some bytes, without their LF; what follows the last LF is a line if it has a byte
abbrev pub cut : List ℕ → List (List ℕ)
cut [] = []
cut (byte ∷ bytes) = if byte == 10 then [] ∷ cut bytes else onto_first byte (cut bytes)

-- some bytes of a text are missing
abbrev pub FallsShort : List ℕ → List ℕ → Type 0
FallsShort sent text = (missing : List ℕ) × (text ≡ sent ++ missing) × (0 < length missing)

-- the first line of some bytes, and those after its LF; or all of them, where they have no LF and the input has none left
abbrev pub IsFirstLine : Bool → Option (List ℕ) → List ℕ → List ℕ → List ℕ → Type 0
IsFirstLine false left got line rest = IsLine line × (got ≡ line ++ 10 ∷ rest)
IsFirstLine true left got line rest = IsLine line × (got ≡ line) × (rest ≡ []) × IsAtEnd left
