-- An operation is found by the place in its site's row.
use Rattle.std.proofs.Common.{◌∙◌, ◌<◌, ◌-◌, ℕ, ap, sym, arith}
use Rattle.std.specs.Prelude.{slice_get, option_and_then}
use Rattle.opid.specs.Held.{with_number}
use Rattle.versions.specs.Document.{Document}
use Rattle.replica.proofs.Numbers.{with_number-zero, with_number-row, row-within}
use Rattle.replica.proofs.log.Log.find.Goals as goal

pub returns-then-sequence-eq0 : goal.returns-then-sequence-eq0
returns-then-sequence-eq0 c =
    sym (ap (λ (n : ℕ). with_number (c.args.number.0, n) c.args.self.now.log) c.if-sequence-eq0.true
    ∙ ap (λ (r : Document). with_number (c.args.number.0, 0) r.log) (sym c.self.view_is)
    ∙ with_number-zero c.self.inside.doc.log c.self.invariant.lawful c.args.number.0)

pub op-requires : goal.op-requires
op-requires c =
    row-within c.self.inside.doc.log c.self.inside.places.rows c.args.number.0
    (c.args.number.1 - 1) c.in-Some.place c.self.invariant.numbered c.get.ensures.sited
    (sym c.in-Some.is ∙ c.get.ensures.value)

pub returns-in-None : goal.returns-in-None
returns-in-None c =
    let log = c.self.inside.doc.log in
    let positive : 0 < c.args.number.1 = omega arith in
    sym (ap (λ (r : Document). with_number c.args.number r.log) (sym c.self.view_is)
    ∙ with_number-row log c.self.inside.places.rows c.args.number c.self.invariant.lawful c.self.invariant.numbered
    c.get.ensures.sited positive
    ∙ ap (option_and_then (slice_get log)) (sym c.get.ensures.value ∙ c.in-None.is))

pub returns-in-Some : goal.returns-in-Some
returns-in-Some c =
    let log = c.self.inside.doc.log in
    let positive : 0 < c.args.number.1 = omega arith in
    sym (ap (λ (r : Document). with_number c.args.number r.log) (sym c.self.view_is)
    ∙ with_number-row log c.self.inside.places.rows c.args.number c.self.invariant.lawful c.self.invariant.numbered
    c.get.ensures.sited positive
    ∙ ap (option_and_then (slice_get log)) (sym c.get.ensures.value ∙ c.in-Some.is)
    ∙ c.op.ensures.value)
