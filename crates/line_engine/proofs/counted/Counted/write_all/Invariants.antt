-- What was sent and what is left make the bytes, and no call failed.
use Rattle.std.proofs.Common.{◌≡◌, ℕ, List, ◌++◌, length}
use Rattle.std.specs.Io.KnownBytes.{Appends}
use Rattle.line_engine.specs.Calls.{of_bytes, CountsWrites}
use Rattle.line_engine.proofs.counted.Counted.write_all.Given as goal

abbrev pub invariant-loop-rest : goal.invariant-loop-rest
invariant-loop-rest g l =
    ((sent : List ℕ) × Appends (g.W.Write.contents l.fn.self.inner) (g.W.Write.contents l.self.inner) sent × (l.fn.bytes ≡ sent ++ l.rest))
    × (l.self.failures ≡ l.fn.self.failures)
    × (l.self.calls ≡ l.fn.self.calls)
    × CountsWrites (of_bytes g.W.Sink.writes) l.fn.self.inner l.fn.self.failures l.self.inner l.self.failures

abbrev pub decreases-loop-rest : goal.decreases-loop-rest
decreases-loop-rest g l = length l.rest
