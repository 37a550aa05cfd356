-- What the calls of a counted reader or writer do to the bytes that it has left or holds, and how the numbers of failures rise;
-- the server's own.
use Rattle.std.specs.Prelude.{◌≡◌, ℕ, ◌<◌, ◌≤◌, List, length, take, Bool, true, false, Option, None, Some, Result, Ok, Err, ◌+◌}
use Rattle.line_engine.specs.declared.fault.ServeFault.{ServeFault}
use Rattle.line_engine.specs.declared.fault.ServeFault.TheVariants.{Read, Write, Memory}
use Rattle.line_engine.specs.Lines.{FallsShort}
use Rattle.std.specs.Io.KnownBytes.{Keeps, Appends, Consumes, IsAtEnd}

-- a read gave the first n bytes of the buffer, 0 at the end alone, or it failed and took nothing
abbrev pub ReadGave : Option (List ℕ) → Option (List ℕ) → Option ℕ → List ℕ → Type 0
ReadGave before after None buf = Keeps before after
ReadGave before after (Some n) buf = (n ≤ length buf) × Consumes before after (take n buf) × (n ≡ 0 → IsAtEnd after)

-- a write took the first n bytes, and some, or it failed and took nothing
abbrev pub WriteTook : Option (List ℕ) → Option (List ℕ) → Option ℕ → List ℕ → Type 0
WriteTook before after None bytes = Keeps before after
WriteTook before after (Some n) bytes = (0 < n) × (n ≤ length bytes) × Appends before after (take n bytes)

-- all was written, or a beginning, and some is missing
abbrev pub WroteAll : Option (List ℕ) → Option (List ℕ) → Bool → List ℕ → Type 0
WroteAll before after true bytes = Appends before after bytes
WroteAll before after false bytes = (sent : List ℕ) × Appends before after sent × FallsShort sent bytes

-- the reader's and the writer's number of failures, before and after: each rises at its own fault alone, by one
abbrev pub Rises : {T : Type 0} → ℕ → ℕ → ℕ → ℕ → Result T ServeFault → Type 0
Rises read read' write write' (Ok done) = (read' ≡ read) × (write' ≡ write)
Rises read read' write write' (Err Read) = (read' ≡ read + 1) × (write' ≡ write)
Rises read read' write write' (Err Write) = (read' ≡ read) × (write' ≡ write + 1)
Rises read read' write write' (Err Memory) = (read' ≡ read) × (write' ≡ write)
