-- The lines so far are those of the operations so far, and were hashed behind what was before them.
use Rattle.std.proofs.Common.{ℕ, ◌≤◌, ◌-◌, ◌++◌, List, length, take, string_bytes}
use Rattle.sha2.specs.Hashers.{Holds256}
use Rattle.journal.specs.Journal.{AreLinesOf}
use Rattle.journal.proofs.writing.write_lines.Given as goal

abbrev pub invariant-parts : goal.invariant-parts
invariant-parts l = record {
  within : l.at ≤ length l.ops;
  lines : (bytes : List ℕ) → Holds256 l.before bytes → AreLinesOf bytes l.from (take l.at l.ops) (string_bytes l.lines.text);
  digest : (bytes : List ℕ) → Holds256 l.before bytes → Holds256 l.lines.digest (bytes ++ string_bytes l.lines.text);
}

abbrev pub decreases-parts : goal.decreases-parts
decreases-parts l = length l.ops - l.at
