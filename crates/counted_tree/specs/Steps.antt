-- That a call has counted; the measure is the server's own. A step is a look at a node.
use Rattle.std.specs.Prelude.{ℕ, ◌+◌, ◌-◌, ◌^◌, ◌≤◌, min}

-- the counter has gone on by one at least, unless it is at its end
abbrev pub IsCounted : ℕ → ℕ → Type 0
IsCounted old new = min (old + 1) (2 ^ 64 - 1) ≤ new
