-- The words and numbers of a line of a script, as the code cuts them.
use Rattle.std.specs.Prelude.{◌≡◌, ◌≢◌, ℕ, List, length, slice_index}
use Rattle.std.specs.List.{AllByRecursion}

-- no byte is a space
abbrev pub IsWord : List ℕ → Type 0
IsWord bytes = AllByRecursion (λ byte. byte ≢ 32) bytes

-- neither `+` nor a `0` that isn't alone stands first
abbrev pub IsPlainNumber : List ℕ → Type 0
IsPlainNumber word = (slice_index word 0 ≢ 43) × (slice_index word 0 ≡ 48 → length word ≡ 1)
