use Rattle.std.proofs.Common.{◌≡◌, ◌<◌, ◌∙◌, ◌+◌, ap, sym, sum, length, arith, ◌++◌}
use Rattle.opid.specs.Reading.{visible_in_at}
use Rattle.opid.specs.Asked.{deletion_run}
use Rattle.position_translate.proofs.Insides.{is_second, inside_second}
use Rattle.position_translate.proofs.Asking.{known, known_pushed, stamps, deletion_more, deletion_same, deletion_all, fewer, as_many}
use Rattle.position_translate.proofs.deletions.run.Goals as goal
use Rattle.position_translate.proofs.deletions.run.Goals.{then-not-is_inside+in-Some+in_ok-push, else-not-is_inside}

pub next-op-requires : goal.next-op-requires
next-op-requires c =
    let told : is_second c.args.units (visible_in_at c.args.units c.args.doc.now.log c.args.version) c.loop-place.place
    ≡ c.is_inside.result =
    sym (c.is_inside.ensures ∙ inside_second c.args.units c.args.doc.now.log c.args.version c.loop-place.place) in
    omega (
      arith,
      c.loop-place.invariant.few,
      ap sum (c.known_behind-known.ensures ∙ ap (known c.args.clock) c.as_slice.ensures.value),
      fewer c.args.units (visible_in_at c.args.units c.args.doc.now.log c.args.version) c.loop-place.place c.args.end c.loop-place-test.true
          (omega (arith, c.loop-place-test.true, c.requires.inside)) (told ∙ c.if-not-is_inside.true),
    )

pub loop-place-preserved : goal.loop-place-preserved
loop-place-preserved c =
    let told : is_second c.args.units (visible_in_at c.args.units c.args.doc.now.log c.args.version) c.loop-place.place
    ≡ c.is_inside.result =
    sym (c.is_inside.ensures ∙ inside_second c.args.units c.args.doc.now.log c.args.version c.loop-place.place) in
    let low : c.loop-place.place < length (visible_in_at c.args.units c.args.doc.now.log c.args.version) =
    omega (arith, c.loop-place-test.true, c.requires.inside) in
    elim c.if-not-is_inside.branch [
      | then-not-is_inside+in-Some+in_ok-push w ↦
          let knows = w.known_behind-known.ensures ∙ ap (known c.args.clock) w.as_slice.ensures.value in
          let pushed = ap (λ v. v.items) w.ops-is ∙ w.in_ok-push.ensures.items in record {
            whole =
                ap (λ ops. ops ++ deletion_run c.args.site (known c.args.clock ops)
                (stamps c.args.units (visible_in_at c.args.units c.args.doc.now.log c.args.version) (c.loop-place.place + 1) c.args.end))
                pushed
                ∙ deletion_more c.args.site c.loop-place.ops.items c.args.clock w.known_behind-known.result.now c.args.units
                (visible_in_at c.args.units c.args.doc.now.log c.args.version) c.loop-place.place c.args.end w.in-Some.target
                w.next-op.result
                (deletion_run c.args.site c.args.clock (stamps c.args.units
                (visible_in_at c.args.units c.args.doc.now.log c.args.version) c.args.first c.args.end))
                c.loop-place-test.true w.in-Some.ensures (told ∙ w.if-not-is_inside.true) knows w.next-op.ensures.value
                c.loop-place.invariant.whole;
            few = omega (
              arith,
              c.loop-place.invariant.few,
              w.next-op.ensures.total,
              ap sum knows,
              ap (λ ops. sum (known c.args.clock ops)) pushed,
              ap sum (known_pushed c.args.clock c.loop-place.ops.items w.next-op.result),
              fewer c.args.units (visible_in_at c.args.units c.args.doc.now.log c.args.version) c.loop-place.place c.args.end
                  c.loop-place-test.true low (told ∙ w.if-not-is_inside.true),
            );
          }
      | else-not-is_inside w ↦ record {
        whole =
            ap (λ ops. ops ++ deletion_run c.args.site (known c.args.clock ops)
            (stamps c.args.units (visible_in_at c.args.units c.args.doc.now.log c.args.version) (c.loop-place.place + 1) c.args.end))
            (ap (λ v. v.items) w.ops-is)
            ∙ deletion_same c.args.site c.loop-place.ops.items (known c.args.clock c.loop-place.ops.items) c.args.units
            (visible_in_at c.args.units c.args.doc.now.log c.args.version) c.loop-place.place c.args.end
            (deletion_run c.args.site c.args.clock (stamps c.args.units
            (visible_in_at c.args.units c.args.doc.now.log c.args.version) c.args.first c.args.end))
            c.loop-place-test.true low (told ∙ w.if-not-is_inside.false) c.loop-place.invariant.whole;
        few = omega (
          arith,
          c.loop-place.invariant.few,
          ap (λ ops. sum (known c.args.clock ops)) (ap (λ v. v.items) w.ops-is),
          as_many c.args.units (visible_in_at c.args.units c.args.doc.now.log c.args.version) c.loop-place.place c.args.end
              c.loop-place-test.true low (told ∙ w.if-not-is_inside.false),
        );
      }
    ]

pub returns : goal.returns
returns c =
    deletion_all c.args.site c.loop-place.ops.items (known c.args.clock c.loop-place.ops.items) c.args.units
    (visible_in_at c.args.units c.args.doc.now.log c.args.version) c.loop-place.place c.args.end
    (deletion_run c.args.site c.args.clock
    (stamps c.args.units (visible_in_at c.args.units c.args.doc.now.log c.args.version) c.args.first c.args.end))
    c.loop-place-test.false c.loop-place.invariant.whole
