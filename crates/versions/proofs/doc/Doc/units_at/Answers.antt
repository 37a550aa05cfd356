use Rattle.std.proofs.Common.{◌≤◌, ◌∙◌, true, length, ap, arith}
use Rattle.opid.specs.Reading.{visible_in_at}
use Rattle.versions.specs.Document.{Document}
use Rattle.versions.proofs.Units.{units_counted}
use Rattle.versions.proofs.doc.Doc.units_at.Goals as goal

pub returns : goal.returns
returns c =
    let low : c.args.version ≤ length c.self.inside.log.ops =
    omega (arith, c.requires, ap (λ (r : Document). length r.log) c.self.view_is) in
    c.units.ensures
    ∙ units_counted c.self.inside.log.ops c.self.inside.tree c.args.version c.self.invariant.0.told low
    ∙ ap (λ (r : Document). length (visible_in_at true r.log c.args.version)) c.self.view_is
