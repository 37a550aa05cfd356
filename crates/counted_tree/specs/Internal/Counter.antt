-- What a function that isn't sure to look at a node does to a counter that it is lent.
use Rattle.std.specs.Prelude.{ℕ, ◌-◌, ◌^◌, ◌≤◌, min}

-- the counter hasn't gone back: it counts to 2^64 - 1
abbrev pub CountsOn : ℕ → ℕ → Type 0
CountsOn old new = min old (2 ^ 64 - 1) ≤ new
