-- Which part of a log bytes tell, or why they are refused: the JSON object that an `ops` reply is (RFC 8259), as `serde_json` reads
-- it. The reply is the server's own.
use Rattle.std.specs.Prelude.{ℕ, nat_le, if◌then◌else◌, Result, Ok, Err, List, length, [], ◌∷◌, codes, bytes_eq}
use Rattle.opid.specs.declared.limits.TheConstants.{MAX_COUNT}
use Rattle.serde_json.specs.Data.{Data}
use Rattle.opid.specs.declared.refusal.Refusal.{Refusal}
use Rattle.opid.specs.declared.refusal.Refusal.TheVariants.{BadCount, UnknownKind}
use Rattle.opid.specs.Operations.{Operation}
use Rattle.operation_json.specs.Members.{◌>>=◌, only_keys, number_at, text_at, json_of}
use Rattle.operation_json.specs.PackedOperations.{operations_at}

-- a part has at most 64 operations, of which the first has this number in the log
abbrev pub part_at : ℕ → List Operation → Result (ℕ × List Operation) Refusal
part_at n ops = if nat_le (length ops) MAX_COUNT then Ok (n, ops) else Err BadCount

-- the number of the part's first operation, and the part
abbrev pub part_members : Data → Result (ℕ × List Operation) Refusal
part_members d = do
  keys ← only_keys (codes "from" ∷ codes "ops" ∷ codes "r" ∷ []) d
  n ← number_at (codes "from") d
  ops ← operations_at (codes "ops") d
  part_at n ops

-- the part that an object of this kind tells
abbrev pub part_named : List ℕ → Data → Result (ℕ × List Operation) Refusal
part_named r d = if bytes_eq r (codes "ops") then part_members d else Err UnknownKind

-- the part that a JSON value tells
abbrev pub part_in : Data → Result (ℕ × List Operation) Refusal
part_in d = do
  r ← text_at (codes "r") d
  part_named r d

-- the part that bytes tell: the number of its first operation in the log, and its operations
abbrev pub part_told : List ℕ → Result (ℕ × List Operation) Refusal
part_told bytes = json_of bytes >>= part_in
