-- What a kept file has to do with the room's log: the server's own rule for keeping it.
use Rattle.std.specs.Prelude.{◌≡◌, ◌⊎◌, ℕ, ◌≤◌, ◌+◌, Bool, true, List, ◌++◌, length, take, drop}
use Rattle.opid.specs.Operations.{Operation}
use Rattle.journal.specs.Journal.{AreLinesOf}
use Rattle.journal.specs.declared.mark.Mark.{Mark}
use Rattle.keeper.specs.Disk.{Only, IsHeld, LeavesOnly}
use Rattle.keeper.specs.Turn.{OpensAs, IsFront}
use Rattle.keeper.specs.declared.kept.KeptFile.{KeptFile}
use Rattle.sha2.specs.Hashers.{Holds256}

-- the file has n bytes, all of them on the disk, and no sync of them has failed
pub record IsClean {D : Type 0} (seen : D → List ℕ) (may_leave : D → List ℕ → Type 0) (fresh : D → ℕ) (disk : D) (n : ℕ) : Type 0 where
  pub whole : length (seen disk) ≡ n
  pub only : Only (seen disk) (may_leave disk)
  pub written : fresh disk ≤ n

-- Of the log the first `mark.version` operations stand in the first `mark.length` bytes of the file, and these are on the disk, and were
-- hashed. Each crash leaves a file that opens as a beginning of the log with at least these operations.
pub record KeepsAt {D : Type 0} (honest : D → Type 0) (seen : D → List ℕ) (may_leave : D → List ℕ → Type 0) (fresh : D → ℕ) (disk : D)
    (mark : Mark) (is_clean : Bool) (log : List Operation) : Type 0 where
  pub is_honest : honest disk
  pub within : mark.length ≤ length (seen disk)
  pub front : IsFront (take mark.length (seen disk)) mark.version log
  pub hashed : Holds256 mark.digest (take mark.length (seen disk))
  pub synced : IsHeld mark.length (seen disk) (may_leave disk)
  pub opens : (c : List ℕ) → may_leave disk c → OpensAs mark.version log c
  pub clean : is_clean ≡ true → IsClean seen may_leave fresh disk mark.length

abbrev pub Keeps : {D : Type 0} → (D → Type 0) → (D → List ℕ) → (D → List ℕ → Type 0) → (D → ℕ) → KeptFile D → List Operation → Type 0
Keeps honest seen may_leave fresh kept log = KeepsAt honest seen may_leave fresh kept.disk kept.mark kept.is_clean log

-- the lines are those of the log's operations behind the file with the mark at its end, and the next mark is where they end
pub record IsTurn (file : List ℕ) (mark next : Mark) (log : List Operation) (lines : List ℕ) : Type 0 where
  pub are : AreLinesOf file mark.version (drop mark.version log) lines
  pub version : next.version ≡ length log
  pub size : next.length ≡ mark.length + length lines
  pub hashed : Holds256 next.digest (file ++ lines)

-- behind what was kept there stand the lines of these operations, with their digests, and nothing else
pub record HasWritten {D : Type 0} (seen : D → List ℕ) (old new : KeptFile D) (ops : List Operation) : Type 0 where
  pub lines : List ℕ
  pub are : AreLinesOf (take old.mark.length (seen old.disk)) old.mark.version ops lines
  pub is : seen new.disk ≡ take old.mark.length (seen old.disk) ++ lines

-- After a turn for these operations a file keeps the log that they end: all of it, or with the mark where it was. A crash at any moment
-- left a beginning of the log, with what stood in the file.
abbrev pub HasTurned : {D : Type 0} → (D → Type 0) → (D → List ℕ) → (D → List ℕ → Type 0) → (D → ℕ) → (D → ℕ) → (D → ℕ → List ℕ → Type 0)
    → KeptFile D → KeptFile D
    → List Operation → Type 0
HasTurned honest seen may_leave fresh moment left_since old new ops = (log : List Operation) → Keeps honest seen may_leave fresh old log
    → ops ≡ drop old.mark.version log → Keeps honest seen may_leave fresh new log
    × ((new.mark.version ≡ length log) ⊎ (new.mark ≡ old.mark))
    × LeavesOnly moment left_since old.disk new.disk (OpensAs old.mark.version log)

-- these operations end the log that was kept, and now all of it is
abbrev pub HasKept : {D : Type 0} → (D → Type 0) → (D → List ℕ) → (D → List ℕ → Type 0) → (D → ℕ) → KeptFile D → KeptFile D
    → List Operation → Type 0
HasKept honest seen may_leave fresh old new ops = (log : List Operation) → Keeps honest seen may_leave fresh old log
    → ops ≡ drop old.mark.version log → new.mark.version ≡ length log
