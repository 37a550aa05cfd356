-- Pairs of numbers by their first ones.
use Rattle.std.specs.Prelude.{ℕ, ◌<◌, List, [], ◌∷◌}
use Rattle.std.specs.List.{AllByRecursion}

-- each first number is below those of the later pairs
abbrev pub AreRising : List (ℕ × ℕ) → Type 0
AreRising [] = Unit {0}
AreRising (p ∷ ps) = AllByRecursion (λ q. p.0 < q.0) ps × AreRising ps
