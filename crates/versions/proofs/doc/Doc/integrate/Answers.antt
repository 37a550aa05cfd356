use Rattle.std.proofs.Common.{◌∙◌, List, ap, sym}
use Rattle.opid.specs.Operations.{Operation}
use Rattle.opid.specs.Reading.{reading}
use Rattle.opid.specs.Splice.{apply}
use Rattle.opid.proofs.Logs.{IsSound-lawful}
use Rattle.versions.specs.Document.{Document}
use Rattle.versions.proofs.doc.Doc.integrate.Goals as goal

pub look_up-requires-clause-sound : goal.look_up-requires-clause-sound
look_up-requires-clause-sound c = IsSound-lawful c.self.inside.log.ops c.self.invariant.0.lawful

pub returns-clause-leads : goal.returns-clause-leads
returns-clause-leads c =
    ap (λ (l : List Operation). apply (reading l) c.integrate-edit.result)
    (sym (c.reserve_next.ensures.log ∙ ap (λ (r : Document). r.log) c.self.view_is))
    ∙ c.integrate-edit.ensures.leads
