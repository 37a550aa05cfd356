use Rattle.std.proofs.Common.{◌∙◌, sym, arith, refl, slice_index}
use Rattle.json_bytes.proofs.Plainly.{spaces_on}
use Rattle.json_bytes.proofs.plain.behind_each_space.Goals as goal

pub loop-at-preserved : goal.loop-at-preserved
loop-at-preserved c =
    let here = spaces_on c.args.bytes.now c.loop-at.at (slice_index c.args.bytes.now c.loop-at.at) refl
    (sym c.is_space.ensures ∙ c.if-is_space.true) in
    (here.1 ∙ c.loop-at.invariant.0, omega (arith, here.0))
