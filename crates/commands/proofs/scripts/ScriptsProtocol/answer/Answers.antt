-- A line is answered by the world, or by its refusal.
use Rattle.std.proofs.Common.{Err, refl}
use Rattle.wire_json.specs.Text.{text}
use Rattle.room_model.specs.declared.reply.Reply.TheVariants.{No}
use Rattle.commands.proofs.Answering.{answers_event, answers_refusal}
use Rattle.commands.proofs.scripts.ScriptsProtocol.answer.Goals as goal

pub returns-in-Ok-clause-answered : goal.returns-in-Ok-clause-answered
returns-in-Ok-clause-answered c =
    let asked = c.in-Ok.ensures.asked in
    let told = c.take.ensures in
    (told.0, answers_event c.args.world.now c.take.new.world c.args.line.now told.0 c.in-Ok.event asked.0 asked.1 asked.2 told.1, told.2)

pub returns-in-Err-clause-answered : goal.returns-in-Err-clause-answered
returns-in-Err-clause-answered c =
    let asked = c.in-Err.ensures.asked in (
      text (No c.in-Err.why),
      answers_refusal c.args.world.now c.args.line.now c.in-Err.why
          (Err c.in-Err.why) asked.0 refl asked.1 c.in-Err.ensures.too_long asked.2,
      c.refusal.ensures.line,
    )
