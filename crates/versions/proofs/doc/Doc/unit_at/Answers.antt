use Rattle.std.proofs.Common.{◌≤◌, ◌∙◌, true, length, ap, sym, arith}
use Rattle.std.specs.Prelude.{slice_get, option_map}
use Rattle.opid.specs.Reading.{visible_in_at}
use Rattle.versions.specs.Document.{Document}
use Rattle.versions.proofs.Units.{told_of, unit_told, unit_within, no_unit}
use Rattle.versions.proofs.doc.Doc.unit_at.Goals as goal

pub get-requires : goal.get-requires
get-requires c =
    let low : c.args.version ≤ length c.self.inside.log.ops =
    omega (arith, c.requires, ap (λ (r : Document). length r.log) c.self.view_is) in
    unit_within c.self.inside.log.ops c.self.inside.tree c.self.inside.list.entries c.args.version c.args.place c.in-Some.elem
    c.in-Some.second c.self.invariant.0.lawful c.self.invariant.0.told c.self.invariant.0.shown c.len.ensures.own low
    (sym c.in-Some.is ∙ c.find_units.ensures.found)

pub returns-in-None : goal.returns-in-None
returns-in-None c =
    let low : c.args.version ≤ length c.self.inside.log.ops =
    omega (arith, c.requires, ap (λ (r : Document). length r.log) c.self.view_is) in
    no_unit c.self.inside.log.ops c.self.inside.tree c.args.version c.args.place c.self.invariant.0.told low
    (sym c.in-None.is ∙ c.find_units.ensures.found)
    ∙ ap (λ (r : Document). option_map told_of (slice_get (visible_in_at true r.log c.args.version) c.args.place))
    c.self.view_is

pub returns-in-Some : goal.returns-in-Some
returns-in-Some c =
    let low : c.args.version ≤ length c.self.inside.log.ops =
    omega (arith, c.requires, ap (λ (r : Document). length r.log) c.self.view_is) in
    unit_told c.self.inside.log.ops c.self.inside.tree c.self.inside.list.entries c.args.version c.args.place c.in-Some.elem
    c.in-Some.second c.get.result.0 c.get.result.1 c.get.result.2 c.self.invariant.0.lawful c.self.invariant.0.told c.self.invariant.0.shown
    c.len.ensures.own low (sym c.in-Some.is ∙ c.find_units.ensures.found) c.get.ensures
    ∙ ap (λ (r : Document). option_map told_of (slice_get (visible_in_at true r.log c.args.version) c.args.place))
    c.self.view_is
