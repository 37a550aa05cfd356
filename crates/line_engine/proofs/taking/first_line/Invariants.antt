-- What was held at first and what was read are the bytes kept, which have no LF, and those held.
use Rattle.std.proofs.Common.{◌≡◌, ℕ, List, ◌++◌}
use Rattle.std.specs.Io.KnownBytes.{Consumes}
use Rattle.wire_json.specs.Line.{IsLine}
use Rattle.line_engine.specs.Internal.Turns.{work}
use Rattle.line_engine.proofs.taking.first_line.Given as goal

abbrev pub invariant-reading : goal.invariant-reading
invariant-reading g l = record {
  kept : (got : List ℕ) × Consumes (g.R.Read.remaining l.fn.input.inner) (g.R.Read.remaining l.input.inner) got
      × (l.fn.window ++ got ≡ l.line.items ++ l.window);
  plain : IsLine l.line.items;
  counted : l.input.failures ≡ l.fn.input.failures;
}

abbrev pub decreases-reading : goal.decreases-reading
decreases-reading g l = work l.input.calls l.window
