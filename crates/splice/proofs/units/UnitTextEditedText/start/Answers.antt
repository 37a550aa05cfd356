use Rattle.std.proofs.Common.{sym, ap, ◌∙◌, map-id, true}
use Rattle.std.proofs.lemmas.Iterator.{YieldsList-from_chars}
use Rattle.std.proofs.lemmas.Iterator.Consumers.{YieldsList-end}
use Rattle.opid.specs.Units.{text_in}
use Rattle.splice.proofs.units.UnitTextEditedText.start.Goals as goal

pub returns-clause-ok : goal.returns-clause-ok
returns-clause-ok c =
    let end = YieldsList-end (YieldsList-from_chars c.args.start.now c.utf8.start cc) c.loop-ch.yielded _ c.loop-ch.yielded_by _ _
    c.in-None.is c.next.ensures.steps in
    c.loop-ch.invariant ∙ ap (text_in true) (sym (map-id c.loop-ch.yielded) ∙ end.0)
