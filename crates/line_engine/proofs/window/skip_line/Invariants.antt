-- The bytes that were skipped have no LF, and none is held.
use Rattle.std.proofs.Common.{◌≡◌, ◌≤◌, ℕ, List, []}
use Rattle.std.specs.Io.KnownBytes.{Consumes}
use Rattle.line_engine.specs.Calls.{for_a_block, CountsReads}
use Rattle.wire_json.specs.Line.{IsLine}
use Rattle.line_engine.specs.Internal.Turns.{work}
use Rattle.line_engine.proofs.window.skip_line.Given as goal

abbrev pub invariant-skipping : goal.invariant-skipping
invariant-skipping g l = record {
  skipped : (got : List ℕ) × Consumes (g.R.Read.remaining l.fn.input.inner) (g.R.Read.remaining l.input.inner) got × IsLine got;
  empty : l.window ≡ [];
  counted : l.input.failures ≡ l.fn.input.failures;
  made : CountsReads (for_a_block g.R.Source.reads) l.fn.input.inner l.fn.input.calls l.fn.input.failures l.input.inner
      l.input.calls l.input.failures;
  falls : work l.input.calls l.window ≤ work l.fn.input.calls l.fn.window;
}

abbrev pub decreases-skipping : goal.decreases-skipping
decreases-skipping g l = work l.input.calls l.window
