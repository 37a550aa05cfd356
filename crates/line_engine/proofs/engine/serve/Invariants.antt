-- The lines that were cut off were answered, the bytes held are those after them, and nothing failed.
use Rattle.std.proofs.Common.{◌≡◌}
use Rattle.line_engine.specs.Calls.{for_a_block, of_bytes, CountsReads, CountsWrites}
use Rattle.line_engine.specs.Internal.Turns.{work}
use Rattle.line_engine.proofs.Rounds.{HasServed}
use Rattle.line_engine.proofs.engine.serve.Given as goal

abbrev pub invariant-serving : goal.invariant-serving
invariant-serving g l = record {
  ready : g.P.Protocol.ready l.state;
  served : HasServed g.P.Protocol.answers l.fn.state l.state
      (g.R.Read.remaining l.fn.input.inner) (g.R.Read.remaining l.input.inner)
      (g.W.Write.contents l.fn.output.inner) (g.W.Write.contents l.output.inner) l.fn.window l.window;
  reads : l.input.failures ≡ l.fn.input.failures;
  writes : l.output.failures ≡ l.fn.output.failures;
  reads_made : CountsReads (for_a_block g.R.Source.reads) l.fn.input.inner l.fn.input.calls l.fn.input.failures l.input.inner
      l.input.calls l.input.failures;
  writes_made : CountsWrites (of_bytes g.W.Sink.writes) l.fn.output.inner l.fn.output.failures l.output.inner l.output.failures;
}

abbrev pub decreases-serving : goal.decreases-serving
decreases-serving g l = work l.input.calls l.window
