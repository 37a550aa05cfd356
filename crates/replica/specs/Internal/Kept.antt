-- The parts of a replica as its code has them.
use Rattle.std.specs.Prelude.{◌≤◌, ◌-◌, ℕ, min, length}
use Rattle.opid.specs.declared.limits.TheConstants.{MAX_HELD, MAX_OPERATIONS}
use Rattle.versions.specs.Document as document
use Rattle.opid.specs.Held as holding
use Rattle.replica.specs.declared.settle.Tally.{Tally}
use Rattle.opid.specs.Delivered.{Settling}

-- a log, what is held back and the counts so far, as what settles
abbrev pub settling_of : document.Document → holding.HeldOperations → Tally → Settling
settling_of log held tally = record { log = log.log; held = held.ops; taken = tally.taken; dropped = tally.dropped }

-- one operation was integrated, and nothing settled yet
abbrev pub start_of : document.Document → holding.HeldOperations → Settling
start_of log held = record { log = log.log; held = held.ops; taken = 1; dropped = 0 }

-- the log has memory for so many more, as far as it may grow
abbrev pub HasReserved : ℕ → document.Document → Type 0
HasReserved n log = min n (MAX_OPERATIONS - length log.log) ≤ log.reserved

-- of a replica with so many reserved, the log and the held list have the memory, as far as they may grow
pub record AreReserved (reserved : ℕ) (log : document.Document) (held : holding.HeldOperations) : Type 0 where
  pub in_log : HasReserved reserved log
  pub in_held : min reserved MAX_HELD ≤ held.reserved
