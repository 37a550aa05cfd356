-- What a walk through a log keeps of the operations that it passed.
use Rattle.std.specs.Prelude.{◌≡◌, ℕ, ◌<◌, ◌≤◌, List, length, take, drop, get_or, Option, Some, None}
use Rattle.opid.specs.Operations.{Operation}
use Rattle.opid.specs.Delivery.{count_of}
use Rattle.causal_clock.specs.declared.row.Row.{Row}
use Rattle.causal_clock.specs.Internal.Packed.{IsLastBefore, operation_at, logged, AreRows}

-- the clock that is kept of a site is that of its last operation before the place
abbrev pub AreSeen : List (Option (List ℕ)) → List Operation → ℕ → Type 0
AreSeen seen ops place = (site : ℕ) (counts : List ℕ) → get_or seen site None ≡ Some counts
    → (at : ℕ) × IsLastBefore ops site place at × (counts ≡ (operation_at ops at).clock)

-- a clock is kept of each site of these operations
abbrev pub AreAllSeen : List (Option (List ℕ)) → List Operation → Type 0
AreAllSeen seen passed = (site : ℕ) → 0 < count_of passed site → (counts : List ℕ) × (get_or seen site None ≡ Some counts)

-- the operations from one place up to another
abbrev pub between : ℕ → ℕ → List Operation → List Operation
between start place ops = drop start (take place ops)

-- the rows tell their log, the places are in it, and the clocks that are kept are those of the sites that were passed
pub record IsReplay (seen : List (Option (List ℕ))) (entries marks : List (ℕ × ℕ)) (rows : List Row) (start place : ℕ) : Type 0 where
  pub lines : AreRows entries marks rows (logged entries rows)
  pub order : start ≤ place
  pub within : place ≤ length rows
  pub kept : AreSeen seen (logged entries rows) place
  pub all : AreAllSeen seen (between start place (logged entries rows))
