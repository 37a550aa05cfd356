-- A message over a pass is answered by what the desk did, or by its refusal.
use Rattle.std.proofs.Common.{refl, ap, subst, inl, Err, None, Some, ◌∙◌, ◌⊎◌}
use Rattle.wire_json.specs.Text.{text}
use Rattle.room_model.specs.declared.reply.Reply.{Reply}
use Rattle.room_model.specs.declared.reply.Reply.TheVariants.{No}
use Rattle.shared_room.specs.Views.{view, opening}
use Rattle.shared_room.specs.PassSteps.{pass_step, pass_fault}
use Rattle.line_engine.specs.LineBytes.{IsFixed, TellsNoRefusal}
use Rattle.line_engine.specs.Lines.{ended}
use Rattle.line_engine.specs.AnsweredRequests.{reply_of}
use Rattle.ws_server.specs.Gates.{gated_step, gated_fault}
use Rattle.line_engine.proofs.Answering.{AnswersRequest-refused}
use Rattle.line_engine.proofs.Telling.{tells_none, fixed_or_none}
use Rattle.ws_server.proofs.Answering.{AnswersRequest-gated}
use Rattle.ws_server.proofs.frame.answer_over.Goals as goal

pub returns-in-Ok-clause-answered : goal.returns-in-Ok-clause-answered
returns-in-Ok-clause-answered g c = (
  text (reply_of c.ask.result),
  Some c.next_call-n.result,
  AnswersRequest-gated g.G.Witness.told_before (pass_step (opening c.args.room.now)) pass_fault
      (record { desk = view c.args.pass.now; calls = c.args.calls.now; gate = c.args.gate.now; made = None })
      (record {
        desk = view c.ask.new.pass;
        calls = c.next_call-n.result;
        gate = c.tell_before.new.self;
        made =
            Some c.next_call-n.result;
      })
      c.args.bytes.now c.in-Ok.call c.ask.result c.in-Ok.ensures.asked
      (c.next_call-n.ensures, refl, c.tell_before.ensures) c.ask.ensures.answered,
  subst (λ (reply : Reply). TellsNoRefusal (text reply)) c.reply_of-reply.ensures
      (tells_none c.reply_of-reply.result c.in-Err-new.ensures.refusal),
)

pub returns-in-Ok-new-clause-answered : goal.returns-in-Ok-new-clause-answered
returns-in-Ok-new-clause-answered g c = (
  text (reply_of c.ask.result),
  Some c.next_call-n.result,
  AnswersRequest-gated g.G.Witness.told_before (pass_step (opening c.args.room.now)) pass_fault
      (record { desk = view c.args.pass.now; calls = c.args.calls.now; gate = c.args.gate.now; made = None })
      (record {
        desk = view c.ask.new.pass;
        calls = c.next_call-n.result;
        gate = c.tell_before.new.self;
        made =
            Some c.next_call-n.result;
      })
      c.args.bytes.now c.in-Ok.call c.ask.result c.in-Ok.ensures.asked
      (c.next_call-n.ensures, refl, c.tell_before.ensures) c.ask.ensures.answered,
  (
    (
      c.in-Ok-new.ensures.line ∙ ap (λ reply. ended (text reply)) c.reply_of-reply.ensures,
      subst (λ (reply : Reply). IsFixed c.in-Ok-new.line ⊎ TellsNoRefusal (text reply)) c.reply_of-reply.ensures
          (fixed_or_none c.reply_of-reply.result c.in-Ok-new.line c.in-Ok-new.ensures.refusal),
    ),
    refl,
  ),
)

pub returns-clause-answered : goal.returns-clause-answered
returns-clause-answered g c = (
  text (No c.in-Err.refusal),
  None,
  AnswersRequest-refused (gated_step g.G.Witness.told_before (pass_step (opening c.args.room.now)))
      (gated_fault g.G.Witness.told_before pass_fault)
      (record { desk = view c.args.pass.now; calls = c.args.calls.now; gate = c.args.gate.now; made = None })
      (record { desk = view c.args.pass.now; calls = c.args.calls.now; gate = c.args.gate.now; made = None })
      c.args.bytes.now c.in-Err.refusal (Err c.in-Err.refusal)
      refl c.in-Err.ensures.too_long c.in-Err.ensures.asked refl,
  ((c.refusal.ensures.line, inl c.refusal.ensures.fixed), refl),
)
