-- What a kept link stands for.
use Rattle.std.specs.Prelude.{ℕ, ◌-◌, ◌==◌, if◌then◌else◌, Option, Some, None}

-- the link that a number stands for: 0 is none, and each other one names the node before it in number
abbrev pub link_of : ℕ → Option ℕ
link_of n = if n == 0 then None else Some (n - 1)
