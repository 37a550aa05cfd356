-- No site so far is free.
use Rattle.std.proofs.Common.{ℕ, ◌<◌}
use Rattle.snapshot.specs.Snapshot.{LacksSite}
use Rattle.journal.proofs.free.free_site.Given as goal

abbrev pub invariant-loop-number : goal.invariant-loop-number
invariant-loop-number l = (s : ℕ) → s < l.number → LacksSite s l.doc.log → ⊥
