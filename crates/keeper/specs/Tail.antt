-- What stands behind the last whole line of a file: the server's own rule.
use Rattle.std.specs.Prelude.{◌≡◌, ◌≢◌, ◌⊎◌, ℕ, ◌<◌, ◌≤◌, ◌+◌, List, [], length, drop}
use Rattle.journal.specs.Journal.{EndsLines}
use Rattle.keeper.specs.declared.kept.KeptFile.{KeptFile}
use Rattle.keeper.specs.declared.opening.FoundFile.{FoundFile}
use Rattle.keeper.specs.declared.opening.FoundFile.TheVariants.{Whole, Torn}

-- the kept file that was found
abbrev pub kept_of : {D : Type 0} → FoundFile D → KeptFile D
kept_of (Whole kept) = kept
kept_of (Torn torn) = torn.kept

-- what stands behind its last whole line
abbrev pub tail_of : {D : Type 0} → FoundFile D → List ℕ
tail_of (Whole kept) = []
tail_of (Torn torn) = torn.tail.items

-- where a line was cut short something of it is there
abbrev pub HasTail : {D : Type 0} → FoundFile D → Type 0
HasTail (Whole kept) = Unit {0}
HasTail (Torn torn) = torn.tail.items ≢ []

-- The whole lines of the file take its first n bytes, and this is what stands behind them: nothing, or a line that was cut short, of
-- at most 65,536 bytes and behind a whole one.
pub record IsCutShort (n : ℕ) (tail file : List ℕ) : Type 0 where
  pub ends : EndsLines n file
  pub is : tail ≡ drop n file
  pub short : (tail ≡ []) ⊎ ((0 < n) × (length tail ≤ 65536))

-- n bytes stand behind the file's last whole line, and they are no line that was cut short
pub record IsNoLine (n : ℕ) (file : List ℕ) : Type 0 where
  pub front : ℕ
  pub ends : EndsLines front file
  pub size : front + n ≡ length file
  pub some : 0 < n
  pub no_line : (front ≡ 0) ⊎ (65536 < n)
