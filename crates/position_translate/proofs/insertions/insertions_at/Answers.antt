use Rattle.std.proofs.Common.{◌≡◌, ◌∙◌, length, vec_len, arith, rules}
use Rattle.std.specs.Str.{chars}
use Rattle.opid.specs.Asked.{asked_insertions_in}
use Rattle.position_translate.proofs.Asking.{few_for, asked_insertions-is, insertions_lawful, insertions_placed, length-asked_insertions}
use Rattle.position_translate.proofs.insertions.insertions_at.Goals as goal

pub run-requires : goal.run-requires
run-requires c =
    few_for c.args.doc.now.log c.clock.result (length (chars c.args.text.now)) c.version.ensures.lawful c.clock.ensures
    (omega (arith, c.count_characters-count.ensures, c.if-count-version.false, c.version-2.ensures.value, c.version-2.ensures.within))

asked : (c : goal.In_ok-run) → c.in_ok-run.field-0.items
    ≡ asked_insertions_in c.args.units c.args.doc.now.log c.args.site c.args.version c.args.place
    (chars c.args.text.now)
asked c = asked_insertions-is c.args.units c.args.doc.now.log c.in_ok-run.field-0.items c.clock.result c.args.site
    c.args.version c.args.place
    c.in-Some.parent (chars c.args.text.now) c.clock.ensures c.in-Some.ensures.0 c.in-Some.ensures.1 c.in_ok-run.ensures

counted : (c : goal.In_ok-run) → vec_len c.in_ok-run.field-0 ≡ length (chars c.args.text.now)
counted c =
    let size : vec_len c.in_ok-run.field-0 ≡ length c.in_ok-run.field-0.items = search rules in
    size ∙ length-asked_insertions c.args.units c.args.doc.now.log c.in_ok-run.field-0.items c.args.site c.args.version c.args.place
    (chars c.args.text.now) c.in-Some.ensures.0 (asked c)

pub returns-clause-counted : goal.returns-clause-counted
returns-clause-counted c = counted c

pub returns-clause-fits : goal.returns-clause-fits
returns-clause-fits c = omega (
  arith,
  counted c,
  c.count_characters-count.ensures,
  c.if-count-version.false,
  c.version-2.ensures.value,
  c.version-2.ensures.within,
)

pub returns-clause-lawful : goal.returns-clause-lawful
returns-clause-lawful c =
    insertions_lawful c.args.units c.args.doc.now.log c.in_ok-run.field-0.items c.args.site c.args.version c.args.place
    (chars c.args.text.now) c.version.ensures.lawful (omega
    (arith, c.number.ensures.value, c.number.ensures.range)) c.in-Some.ensures.0 (asked c)

pub returns-clause-placed : goal.returns-clause-placed
returns-clause-placed c =
    insertions_placed c.args.units c.args.doc.now.log c.in_ok-run.field-0.items c.args.site c.args.version c.args.place
    (chars c.args.text.now) c.version.ensures.lawful (omega (arith, c.number.ensures.value, c.number.ensures.range))
    c.in-Some.ensures.0 (asked c)
