-- A block with no LF is skipped whole, and one with an LF up to it.
use Rattle.std.proofs.Common.{◌≡◌, arith, ap, length, ◌∙◌}
use Rattle.line_engine.specs.Calls.{for_a_block}
use Rattle.line_engine.proofs.Making.{reads_more}
use Rattle.line_engine.proofs.Reading.{skip_done, skip_more}
use Rattle.line_engine.proofs.window.skip_line.Goals as goal

pub returns-in-Some-clause-skips : goal.returns-in-Some-clause-skips
returns-in-Some-clause-skips g c =
    let i = c.skipping.invariant in
    let f = c.in_ok-got.ensures.fills in
    skip_done (g.R.Read.remaining c.args.input.now.inner) (g.R.Read.remaining c.skipping.input.inner)
    (g.R.Read.remaining c.fill.new.input.inner)
    i.skipped.0 c.skipping.window f.0 c.fill.new.self c.bytes.result.now c.advance.new.self c.in-Some.at
    i.skipped.1 i.skipped.2 i.empty f.1 f.2 c.bytes.ensures c.in-Some.ensures.1 c.in-Some.ensures.2 c.advance.ensures

pub skipping-preserved : goal.skipping-preserved
skipping-preserved g c =
    let i = c.skipping.invariant in
    let f = c.in_ok-got.ensures.fills in
    let none : length c.clear.new.self ≡ 0 = ap length c.clear.ensures in
    record {
      skipped = skip_more (g.R.Read.remaining c.args.input.now.inner) (g.R.Read.remaining c.skipping.input.inner)
          (g.R.Read.remaining c.fill.new.input.inner)
          i.skipped.0 c.skipping.window f.0 c.fill.new.self c.bytes.result.now
          i.skipped.1 i.skipped.2 i.empty f.1 f.2 c.bytes.ensures c.in_default.ensures;
      empty = c.clear.ensures;
      counted = c.in_ok-got.ensures.counted ∙ i.counted;
      made = reads_more (for_a_block g.R.Source.reads) c.args.input.now.inner c.skipping.input.inner c.fill.new.input.inner
          c.args.input.now.calls c.args.input.now.failures c.skipping.input.calls c.skipping.input.failures
          c.fill.new.input.calls c.fill.new.input.failures i.made
          i.counted c.in_ok-got.ensures.made;
      falls = omega (arith, c.in_ok-got.ensures.work, i.falls);
    }
