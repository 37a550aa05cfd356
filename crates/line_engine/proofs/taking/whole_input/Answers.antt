-- What was held is kept, and more is read.
use Rattle.std.proofs.Common.{◌∙◌}
use Rattle.line_engine.proofs.Reading.{kept_more}
use Rattle.line_engine.proofs.taking.whole_input.Goals as goal

pub reading-preserved : goal.reading-preserved
reading-preserved g c =
    let i = c.reading.invariant in
    let f = c.in-Some.ensures.fills in
    record {
      kept = kept_more (g.R.Read.remaining c.args.input.now.inner) (g.R.Read.remaining c.reading.input.inner)
          (g.R.Read.remaining c.fill.new.input.inner)
          c.args.window.now i.kept.0 c.reading.bytes.items c.reading.window c.bytes.result.now c.keep.new.line.items c.clear.new.self
          c.fill.new.self f.0
          i.kept.1 i.kept.2 c.bytes.ensures c.in-Ok.ensures c.clear.ensures f.1 f.2;
      counted = c.in-Some.ensures.counted ∙ i.counted;
    }
