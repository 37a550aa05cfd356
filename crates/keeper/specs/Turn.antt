-- What a file may stand for when a crash left it, and what turns of keeping do to that: the server's own rule.
use Rattle.std.specs.Prelude.{ℕ, ◌≤◌, List, ◌++◌, length, take, drop}
use Rattle.opid.specs.declared.limits.TheConstants.{MAX_OPERATIONS}
use Rattle.opid.specs.Operations.{Operation}
use Rattle.opid.specs.Lawful.{IsLawful}
use Rattle.journal.specs.Journal.{IsEnded, StandsFor, AreLinesOf}
use Rattle.keeper.specs.Disk.{IsTorn}

-- the bytes open as a beginning of the log, of at least so many operations
pub record OpensAs (least : ℕ) (log : List Operation) (bytes : List ℕ) : Type 0 where
  pub count : ℕ
  pub at_least : least ≤ count
  pub within : count ≤ length log
  pub stands : StandsFor bytes (take count log)

-- the bytes are whole lines, which stand for the log's first operations; of it these are so many
pub record IsFront (file : List ℕ) (version : ℕ) (log : List Operation) : Type 0 where
  pub lawful : IsLawful log
  pub few : length log ≤ MAX_OPERATIONS
  pub begins : version ≤ length log
  pub ended : IsEnded file
  pub stands : StandsFor file (take version log)

-- whole lines to which the lines of the log's other operations are appended stand for the log, and are whole lines
abbrev pub StaysWhole : Type 0
StaysWhole = (file lines : List ℕ) (version : ℕ) (log : List Operation) → IsFront file version log
    → AreLinesOf file version (drop version log) lines
    → IsFront (file ++ lines) (length log) log

-- where a crash tears that, what is left opens as a beginning of the log with these first operations
abbrev pub Tears : Type 0
Tears = (file lines : List ℕ) (version : ℕ) (log : List Operation) → IsFront file version log
    → AreLinesOf file version (drop version log) lines → (c : List ℕ) → IsTorn file lines c → OpensAs version log c

-- what opens so, and begins with whole lines that stand for these first operations, opens so when it is cut anywhere behind them
abbrev pub StaysCut : Type 0
StaysCut = (n size version : ℕ) (log : List Operation) (d : List ℕ) → n ≤ size → IsFront (take n d) version log → OpensAs version log d
    → OpensAs version log (take size d)
