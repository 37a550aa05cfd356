-- A block more is read behind bytes with no LF. More bytes than a line may have, and no LF among them, are a line that is too long.
use Rattle.std.proofs.Common.{arith, ap, ◌∙◌, ◌<◌, length, length-append}
use Rattle.line_engine.specs.Calls.{for_a_block}
use Rattle.line_engine.proofs.Making.{reads_more}
use Rattle.line_engine.proofs.Reading.{long_skipped, line_more}
use Rattle.line_engine.proofs.window.next_line.Goals as goal

pub returns-then-seen-limit-clause-cuts : goal.returns-then-seen-limit-clause-cuts
returns-then-seen-limit-clause-cuts g c =
    let i = c.lines.invariant in
    let long : c.args.limit < length c.lines.window = omega arith in
    long_skipped c.args.limit (g.R.Read.remaining c.args.input.now.inner) (g.R.Read.remaining c.lines.input.inner)
    (g.R.Read.remaining c.skip_line.new.input.inner)
    c.args.window.now i.grown.0 c.lines.window c.bytes.result.now c.skip_line.new.window c.skip_line.result
    i.grown.1 i.grown.2 c.bytes.ensures c.in_default.ensures long c.skip_line.ensures.skips

pub lines-preserved : goal.lines-preserved
lines-preserved g c =
    let i = c.lines.invariant in
    let f = c.in_ok-got.ensures.fills in
    let m = line_more (g.R.Read.remaining c.args.input.now.inner) (g.R.Read.remaining c.lines.input.inner)
    (g.R.Read.remaining c.fill.new.input.inner)
    c.args.window.now i.grown.0 c.lines.window f.0 c.fill.new.self c.bytes.result.now c.len-seen.result
    i.grown.1 i.grown.2 f.1 f.2 c.bytes.ensures c.in_default.ensures c.len-seen.ensures.len in
    record {
      grown = m.0;
      within = omega (arith, ap length f.2, length-append c.lines.window f.0, c.len-seen.ensures.len);
      before = m.1;
      counted = c.in_ok-got.ensures.counted ∙ i.counted;
      made = reads_more (for_a_block g.R.Source.reads) c.args.input.now.inner c.lines.input.inner c.fill.new.input.inner
          c.args.input.now.calls c.args.input.now.failures c.lines.input.calls c.lines.input.failures c.fill.new.input.calls
          c.fill.new.input.failures
          i.made i.counted c.in_ok-got.ensures.made;
      falls = omega (arith, c.in_ok-got.ensures.work, i.falls);
    }
