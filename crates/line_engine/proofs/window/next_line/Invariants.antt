-- The bytes held are those from before with those that were read, and those that were searched have no LF.
use Rattle.std.proofs.Common.{◌≡◌, ◌≤◌, ℕ, List, ◌++◌, length, take}
use Rattle.std.specs.Io.KnownBytes.{Consumes}
use Rattle.line_engine.specs.Calls.{for_a_block, CountsReads}
use Rattle.wire_json.specs.Line.{IsLine}
use Rattle.line_engine.specs.Internal.Turns.{work}
use Rattle.line_engine.proofs.window.next_line.Given as goal

abbrev pub invariant-lines : goal.invariant-lines
invariant-lines g l = record {
  grown : (got : List ℕ) × Consumes (g.R.Read.remaining l.fn.input.inner) (g.R.Read.remaining l.input.inner) got
      × (l.window ≡ l.fn.window ++ got);
  within : l.seen ≤ length l.window;
  before : IsLine (take l.seen l.window);
  counted : l.input.failures ≡ l.fn.input.failures;
  made : CountsReads (for_a_block g.R.Source.reads) l.fn.input.inner l.fn.input.calls l.fn.input.failures l.input.inner
      l.input.calls l.input.failures;
  falls : work l.input.calls l.window ≤ work l.fn.input.calls l.fn.window;
}

abbrev pub decreases-lines : goal.decreases-lines
decreases-lines g l = work l.input.calls l.window
