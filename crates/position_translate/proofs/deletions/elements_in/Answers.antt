use Rattle.std.proofs.Common.{◌≡◌, ◌<◌, ◌∙◌, length, sym, arith}
use Rattle.opid.specs.Reading.{visible_in_at}
use Rattle.position_translate.proofs.Insides.{is_second, inside_second}
use Rattle.position_translate.proofs.Asking.{fewer, as_many}
use Rattle.position_translate.proofs.deletions.elements_in.Goals as goal
use Rattle.position_translate.proofs.deletions.elements_in.Goals.{then-not-is_inside, else-not-is_inside}

pub loop-place-preserved : goal.loop-place-preserved
loop-place-preserved c =
    let told : c.is_inside.result ≡ is_second c.args.units
    (visible_in_at c.args.units c.args.doc.now.log c.args.version) c.loop-place.place =
    c.is_inside.ensures ∙ inside_second c.args.units c.args.doc.now.log c.args.version c.loop-place.place in
    let low : c.loop-place.place < length (visible_in_at c.args.units c.args.doc.now.log c.args.version) =
    omega (arith, c.loop-place-test.true, c.requires.inside) in
    elim c.if-not-is_inside.branch [
      | then-not-is_inside w ↦ record {
        all = omega (
          arith,
          w.elements-is,
          c.loop-place.invariant.all,
          fewer c.args.units (visible_in_at c.args.units c.args.doc.now.log c.args.version) c.loop-place.place c.args.end
              c.loop-place-test.true low (sym told ∙ w.if-not-is_inside.true),
        );
        few = omega (arith, w.elements-is, c.loop-place.invariant.few);
      }
      | else-not-is_inside w ↦ record {
        all = omega (
          arith,
          w.elements-is,
          c.loop-place.invariant.all,
          as_many c.args.units (visible_in_at c.args.units c.args.doc.now.log c.args.version) c.loop-place.place c.args.end
              c.loop-place-test.true low (sym told ∙ w.if-not-is_inside.false),
        );
        few = omega (arith, w.elements-is, c.loop-place.invariant.few);
      }
    ]
