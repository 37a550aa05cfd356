-- A turn more is a line more, and the last turn ends the whole.
use Rattle.std.proofs.Common.{[], ◌++◌, Ok, Err, refl, ◌∙◌, append-nil}
use Rattle.std.proofs.lemmas.List.Elements.{All-nil}
use Rattle.wire_json.specs.Line.{IsLine}
use Rattle.line_engine.specs.Calls.{for_a_block, of_bytes}
use Rattle.line_engine.proofs.Making.{reads_none, reads_more, writes_none, writes_more}
use Rattle.line_engine.proofs.Known.{Consumes-none, Appends-none}
use Rattle.line_engine.proofs.Rounds.{round_on, round_last, Serves-err}
use Rattle.line_engine.proofs.engine.serve.Goals as goal

pub serving-init : goal.serving-init
serving-init g c = record {
  ready = c.requires.ready;
  served = (
    [],
    [],
    [],
    All-nil IsLine,
    refl,
    Consumes-none (g.R.Read.remaining c.args.input.now.inner),
    append-nil c.args.window.now,
    Appends-none (g.W.Write.contents c.args.output.now.inner),
  );
  reads = refl;
  writes = refl;
  reads_made = reads_none (for_a_block g.R.Source.reads) c.args.input.now.inner c.args.input.now.calls c.args.input.now.failures;
  writes_made = writes_none (of_bytes g.W.Sink.writes) c.args.output.now.inner c.args.output.now.failures;
}

pub serving-preserved : goal.serving-preserved
serving-preserved g c =
    let i = c.serving.invariant in
    let e = rw c.in-Ok-true.field-0-test at c.in-Ok-true.ensures.turn in
    record {
      ready = c.in-Ok-true.ensures.ready;
      served = round_on g.P.Protocol.answers c.args.state.now c.serving.state c.serve_next.new.state
          (g.R.Read.remaining c.args.input.now.inner) (g.R.Read.remaining c.serving.input.inner)
          (g.R.Read.remaining c.serve_next.new.input.inner)
          (g.W.Write.contents c.args.output.now.inner) (g.W.Write.contents c.serving.output.inner)
          (g.W.Write.contents c.serve_next.new.output.inner)
          c.args.window.now c.serving.window c.serve_next.new.window i.served e;
      reads = c.in-Ok-true.ensures.counts.0 ∙ i.reads;
      writes = c.in-Ok-true.ensures.counts.1 ∙ i.writes;
      reads_made = reads_more (for_a_block g.R.Source.reads) c.args.input.now.inner c.serving.input.inner c.serve_next.new.input.inner
          c.args.input.now.calls c.args.input.now.failures c.serving.input.calls c.serving.input.failures c.serve_next.new.input.calls
          c.serve_next.new.input.failures i.reads_made i.reads c.in-Ok-true.ensures.reads;
      writes_made = writes_more (of_bytes g.W.Sink.writes) c.args.output.now.inner c.serving.output.inner c.serve_next.new.output.inner
          c.args.output.now.failures c.serving.output.failures c.serve_next.new.output.failures i.writes_made c.in-Ok-true.ensures.writes;
    }

pub returns-in-Ok-false-clause-serves : goal.returns-in-Ok-false-clause-serves
returns-in-Ok-false-clause-serves g c =
    let i = c.serving.invariant in
    let e = rw c.in-Ok-false.field-0-test at c.in-Ok-false.ensures.turn in
    round_last {T = Unit {0}} g.P.Protocol.answers c.args.state.now c.serving.state c.serve_next.new.state
    (g.R.Read.remaining c.args.input.now.inner) (g.R.Read.remaining c.serving.input.inner) (g.R.Read.remaining c.serve_next.new.input.inner)
    (g.W.Write.contents c.args.output.now.inner) (g.W.Write.contents c.serving.output.inner)
    (g.W.Write.contents c.serve_next.new.output.inner)
    c.args.window.now c.serving.window (Ok tt) i.served e

pub returns-in-Err-clause-serves : goal.returns-in-Err-clause-serves
returns-in-Err-clause-serves g c =
    let i = c.serving.invariant in
    let e = c.in-Err.ensures.turn in
    round_last {T = Unit {0}} g.P.Protocol.answers c.args.state.now c.serving.state c.serve_next.new.state
    (g.R.Read.remaining c.args.input.now.inner) (g.R.Read.remaining c.serving.input.inner) (g.R.Read.remaining c.serve_next.new.input.inner)
    (g.W.Write.contents c.args.output.now.inner) (g.W.Write.contents c.serving.output.inner)
    (g.W.Write.contents c.serve_next.new.output.inner)
    c.args.window.now c.serving.window (Err c.in-Err.why) i.served (
      e.0,
      e.1,
      e.2,
      e.3,
      Serves-err g.P.Protocol.answers c.serving.state c.serve_next.new.state (c.serving.window ++ e.0)
          (g.R.Read.remaining c.serve_next.new.input.inner) e.1 c.in-Err.why e.4,
    )

pub returns-in-Ok-false-clause-reads : goal.returns-in-Ok-false-clause-reads
returns-in-Ok-false-clause-reads g c =
    let i = c.serving.invariant in
    reads_more (for_a_block g.R.Source.reads) c.args.input.now.inner c.serving.input.inner c.serve_next.new.input.inner
    c.args.input.now.calls c.args.input.now.failures c.serving.input.calls c.serving.input.failures c.serve_next.new.input.calls
    c.serve_next.new.input.failures i.reads_made i.reads c.in-Ok-false.ensures.reads

pub returns-in-Ok-false-clause-writes : goal.returns-in-Ok-false-clause-writes
returns-in-Ok-false-clause-writes g c =
    let i = c.serving.invariant in
    writes_more (of_bytes g.W.Sink.writes) c.args.output.now.inner c.serving.output.inner c.serve_next.new.output.inner
    c.args.output.now.failures c.serving.output.failures c.serve_next.new.output.failures i.writes_made c.in-Ok-false.ensures.writes

pub returns-in-Err-clause-reads : goal.returns-in-Err-clause-reads
returns-in-Err-clause-reads g c =
    let i = c.serving.invariant in
    reads_more (for_a_block g.R.Source.reads) c.args.input.now.inner c.serving.input.inner c.serve_next.new.input.inner
    c.args.input.now.calls c.args.input.now.failures c.serving.input.calls c.serving.input.failures c.serve_next.new.input.calls
    c.serve_next.new.input.failures i.reads_made i.reads c.in-Err.ensures.reads

pub returns-in-Err-clause-writes : goal.returns-in-Err-clause-writes
returns-in-Err-clause-writes g c =
    let i = c.serving.invariant in
    writes_more (of_bytes g.W.Sink.writes) c.args.output.now.inner c.serving.output.inner c.serve_next.new.output.inner
    c.args.output.now.failures c.serving.output.failures c.serve_next.new.output.failures i.writes_made c.in-Err.ensures.writes
