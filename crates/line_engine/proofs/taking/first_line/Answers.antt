-- What was held is kept, and more is read.
use Rattle.std.proofs.Common.{◌∙◌, ◌++◌, ap, sym}
use Rattle.line_engine.proofs.Reading.{kept_more, plain_more}
use Rattle.line_engine.proofs.taking.first_line.Goals as goal

pub reading-preserved : goal.reading-preserved
reading-preserved g c =
    let i = c.reading.invariant in
    let f = c.in-Some-fill.ensures.fills in
    record {
      kept = kept_more (g.R.Read.remaining c.args.input.now.inner) (g.R.Read.remaining c.reading.input.inner)
          (g.R.Read.remaining c.fill.new.input.inner)
          c.args.window.now i.kept.0 c.reading.line.items c.reading.window c.bytes-in-reading.result.now c.keep.new.line.items
          c.clear.new.self c.fill.new.self f.0
          i.kept.1 i.kept.2 c.bytes-in-reading.ensures c.in-Ok-keep.ensures c.clear.ensures f.1 f.2;
      plain = plain_more c.reading.line.items c.keep.new.line.items c.bytes.result.now
          (c.in-Ok-keep.ensures ∙ ap (λ t. c.reading.line.items ++ t) (c.bytes-in-reading.ensures ∙ sym c.bytes.ensures)) i.plain
          c.in_default.ensures;
      counted = c.in-Some-fill.ensures.counted ∙ i.counted;
    }
