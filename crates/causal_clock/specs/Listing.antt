-- A clock told by pairs of a site and its count, as messages tell it: sites that aren't named have the count 0;
-- the server's own.
use Rattle.std.specs.Prelude.{ℕ, ◌==◌, nat_lt, nat_le, Bool, true, ◌&&◌, if◌then◌else◌, Result, Ok, Err, List, [], ◌∷◌, map}
use Rattle.std.specs.List.{list_all, sum_by}
use Rattle.opid.specs.declared.limits.TheConstants.{MAX_OPERATIONS}
use Rattle.opid.specs.declared.refusal.Refusal.{Refusal}
use Rattle.opid.specs.declared.refusal.Refusal.TheVariants.{BadClock}
use Rattle.opid.specs.Clocks.{sites}

-- the count of the site's pair, or 0
abbrev pub count_in : List (ℕ × ℕ) → ℕ → ℕ
count_in [] site = 0
count_in (p ∷ ps) site = if p.0 == site then p.1 else count_in ps site

-- the clock with these entries and no other
abbrev pub clock_with : List (ℕ × ℕ) → List ℕ
clock_with pairs = map (count_in pairs) sites

-- the site of each pair is below those of the pairs after it
abbrev pub rises : List (ℕ × ℕ) → Bool
rises [] = true
rises (p ∷ ps) = list_all (λ q. nat_lt p.0 q.0) ps && rises ps

-- pairs that tell a clock: their sites strictly rise, no count is 0, and the sum is at most 131,072
abbrev pub tells_clock : List (ℕ × ℕ) → Bool
tells_clock pairs = rises pairs && list_all (λ p. nat_lt 0 p.1) pairs && nat_le (sum_by (λ p. p.1) pairs) MAX_OPERATIONS

-- the clock that pairs tell, if they tell one
abbrev pub clock_told : List (ℕ × ℕ) → Result (List ℕ) Refusal
clock_told pairs = if tells_clock pairs then Ok (clock_with pairs) else Err BadClock
