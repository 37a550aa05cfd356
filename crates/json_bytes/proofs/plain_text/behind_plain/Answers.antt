use Rattle.std.proofs.Common.{◌∙◌, sym, arith}
use Rattle.json_bytes.proofs.PlainText.{plain_more}
use Rattle.json_bytes.proofs.plain_text.behind_plain.Goals as goal

pub loop-end-preserved : goal.loop-end-preserved
loop-end-preserved c =
    let i = c.loop-end.invariant in
    record {
      plain = plain_more c.args.bytes.now c.args.at c.loop-end.end i.order
          (omega (arith, c.loop-end-test.true, c.min-most.ensures)) i.plain
          (sym c.is_plain.ensures ∙ c.if-is_plain.true);
      order = omega (arith, i.order);
      within = omega (arith, c.loop-end-test.true);
    }
