use Rattle.std.proofs.Common.{◌≡◌, ◌∙◌, ◌≤◌, ◌+◌, false, sym, length, vec_len, arith, rules}
use Rattle.opid.specs.Reading.{visible_in_at, reading_in_at}
use Rattle.opid.specs.Splice.{is_inside}
use Rattle.opid.specs.Places.{element_count}
use Rattle.position_translate.proofs.Asking.{few_for, asked_deletions-is, deletions_lawful, length-once, length-asked_deletions}
use Rattle.position_translate.proofs.deletions.deletions_at.Goals as goal

pub run-requires-clause-few : goal.run-requires-clause-few
run-requires-clause-few c =
    omega (
      arith,
      c.elements_in-elements.ensures,
      few_for c.args.doc.now.log c.clock.result c.elements_in-elements.result c.version.ensures.lawful c.clock.ensures
          (omega (arith, c.if-elements-version.false, c.version-2.ensures.value, c.version-2.ensures.within)),
    )

within : (c : goal.In_ok-run) → c.args.place + c.args.count ≤ length (visible_in_at c.args.units c.args.doc.now.log c.args.version)
within c = omega (arith, c.if-end-len_at.false, c.len_at.ensures)

counted : (c : goal.In_ok-run) → vec_len c.in_ok-run.field-0
    ≡ element_count c.args.units c.args.doc.now.log c.args.version c.args.place c.args.count
counted c =
    let size : vec_len c.in_ok-run.field-0 ≡ length c.in_ok-run.field-0.items = search rules in
    size ∙ length-asked_deletions c.args.units c.args.doc.now.log c.in_ok-run.field-0.items c.clock.result c.args.site c.args.version
    c.args.place c.args.count (within c) c.in_ok-run.ensures

pub returns-clause-counted : goal.returns-clause-counted
returns-clause-counted c = counted c

pub returns-clause-fits : goal.returns-clause-fits
returns-clause-fits c = omega (
  arith,
  counted c,
  c.elements_in-elements.ensures,
  length-once c.args.units c.args.doc.now.log c.args.version c.args.place c.args.count (within c),
  c.if-elements-version.false,
  c.version-2.ensures.value,
  c.version-2.ensures.within,
)

pub returns-clause-lawful : goal.returns-clause-lawful
returns-clause-lawful c =
    let first : is_inside c.args.units (reading_in_at c.args.units c.args.doc.now.log c.args.version) c.args.place ≡ false =
    sym c.is_inside.ensures ∙ c.if-is_inside.false in
    let last : is_inside c.args.units (reading_in_at c.args.units c.args.doc.now.log c.args.version) (c.args.place + c.args.count) ≡ false =
    sym c.is_inside-else-is_inside.ensures ∙ c.if-is_inside-2.false in
    deletions_lawful c.args.units c.args.doc.now.log c.in_ok-run.field-0.items c.args.site c.args.version c.args.place c.args.count
    c.version.ensures.lawful (omega (arith, c.number.ensures.value, c.number.ensures.range)) (within c) first last
    (asked_deletions-is c.args.units c.args.doc.now.log c.in_ok-run.field-0.items c.clock.result c.args.site c.args.version c.args.place
    c.args.count c.clock.ensures first last c.in_ok-run.ensures)
