-- The output of a stream whose output waits. The rule is the server's own.
use Rattle.std.specs.Prelude.{ℕ, List, Option}
use Rattle.std.specs.Io.KnownBytes.{append_known}
use Rattle.kept_rooms.specs.declared.held.HeldStream.{HeldStream}

-- what went out, and behind it what waits
abbrev pub output_of : {S : Type 0} → (S → Option (List ℕ)) → HeldStream S → Option (List ℕ)
output_of contents it = append_known (contents it.stream) it.held.items
