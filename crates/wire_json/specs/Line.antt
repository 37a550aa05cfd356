-- A line of bytes: what LF, which is the byte 10, ends. Requests and replies stand on lines, and the parts of a journal: the server's own.
use Rattle.std.specs.Prelude.{◌≢◌, ℕ, List, All}

-- no byte is LF
abbrev pub IsLine : List ℕ → Type 0
IsLine bytes = All (λ byte. byte ≢ 10) bytes
