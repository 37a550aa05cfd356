-- How much may be asked for at once, which is the server's own.
use Rattle.std.specs.Prelude.{ℕ, Bool, ◌||◌, ◌==◌, nat_lt}
use Rattle.opid.specs.declared.limits.TheConstants.{MAX_COUNT}

-- none or more than 64 are asked for
abbrev pub is_bad_count : ℕ → Bool
is_bad_count n = n == 0 || nat_lt MAX_COUNT n
