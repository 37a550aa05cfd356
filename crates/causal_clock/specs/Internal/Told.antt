-- Which entries of a clock a log stores, as the bits of one number.
use Rattle.std.specs.Prelude.{◌≡◌, ℕ, ◌<◌, ◌^◌, ◌==◌, Bool, not, ◌||◌, if◌then◌else◌, zero, suc, List, [], ◌∷◌, ◌++◌}
use Rattle.std.specs.Int.{bit_at}
use Rattle.opid.specs.Clocks.{entry}

-- a number's bits of the 32 sites are set where all entries are told, or the site's differs from the one before, and no others are
pub record AreTold (whole : Bool) (before clock : List ℕ) (bits : ℕ) : Type 0 where
  pub sites : (n : ℕ) → n < 32 → bit_at bits n ≡ (if whole || not (entry before n == entry clock n) then 1 else 0)
  pub few : bits < 2 ^ 32

-- the entries of the clock for the first n sites whose bits are set
unfoldable pub picked : ℕ → List ℕ → ℕ → List (ℕ × ℕ)
picked bits clock zero = []
picked bits clock (suc n) = picked bits clock n ++ (if bit_at bits n == 1 then (n, entry clock n) ∷ [] else [])
