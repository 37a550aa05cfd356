-- A clock's entries that aren't 0, as pairs.
use Rattle.std.proofs.Common.{ℕ, List, map}
use Rattle.std.specs.Prelude.{nat_lt, filter}
use Rattle.std.specs.List.{range_with_len}
use Rattle.opid.specs.Clocks.{entry}

abbrev pub pair_at : List ℕ → ℕ → ℕ × ℕ
pair_at clock site = (site, entry clock site)

-- the pairs of n sites from a on
abbrev pub pairs_from : List ℕ → ℕ → ℕ → List (ℕ × ℕ)
pairs_from clock a n = filter (λ p. nat_lt 0 p.1) (map (pair_at clock) (range_with_len a n))
