use Rattle.std.proofs.Common.{Err, ap, arith, ◌∙◌}
use Rattle.editors.proofs.Edited.{plays_on, refused}
use Rattle.editors.proofs.editor.play_each.Goals as goal

pub loop-edit-preserved : goal.loop-edit-preserved
loop-edit-preserved g c =
    let it = g.T.EditedText in record {
      text = plays_on it.units (it.items c.args.text.now) (it.items c.loop-edit.text) (it.items c.apply.new.self) c.args.es.now
          c.loop-edit.edit-index _ c.loop-edit-test.true c.loop-edit.invariant.text c.in-Ok.ensures.ok;
      version = omega (arith, c.loop-edit.invariant.version);
    }

pub returns-in-Err-clause-cause : goal.returns-in-Err-clause-cause
returns-in-Err-clause-cause g c =
    let it = g.T.EditedText in
    refused it.units (it.items c.args.text.now) (it.items c.loop-edit.text) c.args.es.now c.loop-edit.edit-index _ c.in-Err.why
    c.loop-edit-test.true c.loop-edit.invariant.text c.in-Err.ensures.cause (λ b. c.apply.ensures.outside.0 (c.in-Err.is ∙ ap Err b))
