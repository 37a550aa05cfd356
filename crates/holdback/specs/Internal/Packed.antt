-- The numbers of operations, each packed into one, and which of them are due.
use Rattle.std.specs.Prelude.{◌≡◌, ℕ, ◌+◌, ◌*◌, ◌/◌, ◌%◌, ◌<◌, ◌≤◌, true, false, ◌==◌, List, slice_index, get_or}
use Rattle.opid.specs.Clocks.{entry, is_next}
use Rattle.opid.specs.Operations.{Operation}

-- the site and the count that are packed into a number
abbrev pub unpacked : ℕ → ℕ × ℕ
unpacked n = (n % 32, n / 32)

-- a table of the number that is next for each site after those that the clock counts
abbrev pub AreDue : List ℕ → List ℕ → Type 0
AreDue clock due = (s : ℕ) → s < 32 → slice_index due s ≡ s + (entry clock s + 1) * 32

-- none of these numbers is in the table
abbrev pub NoneDue : List ℕ → List ℕ → ℕ → ℕ → Type 0
NoneDue due numbers start end =
    (k : ℕ) → start ≤ k → k < end → (slice_index due (slice_index numbers k % 32) == slice_index numbers k) ≡ false

-- none of these operations is ready where just the operations are that the clock counts
abbrev pub NoneReadyIn : List ℕ → List Operation → ℕ → ℕ → Type 0
NoneReadyIn clock ops start end =
    (k : ℕ) (d : Operation) → start ≤ k → k < end → is_next (get_or ops k d).site (get_or ops k d).clock clock ≡ false

-- the first of these operations that is ready stands at this place
pub record IsFirstReadyIn (clock : List ℕ) (ops : List Operation) (start end place : ℕ) : Type 0 where
  pub low : start ≤ place
  pub high : place < end
  pub before : NoneReadyIn clock ops start place
  pub ready : (d : Operation) → is_next (get_or ops place d).site (get_or ops place d).clock clock ≡ true
