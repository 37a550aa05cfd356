-- A line is answered by what the desk did, or by its refusal.
use Rattle.std.proofs.Common.{◌≡◌, MatchResult, refl, subst, Err}
use Rattle.wire_json.specs.Text.{text}
use Rattle.room_model.specs.declared.reply.Reply.{Reply}
use Rattle.room_model.specs.declared.reply.Reply.TheVariants.{No}
use Rattle.line_engine.specs.AnsweredRequests.{reply_of}
use Rattle.line_engine.specs.Lines.{ended}
use Rattle.line_engine.specs.LineBytes.{line_bytes, TellsNoRefusal}
use Rattle.line_engine.proofs.Answering.{AnswersRequest-asked, AnswersRequest-refused}
use Rattle.line_engine.proofs.Telling.{made_or_wanted}
use Rattle.line_engine.proofs.requests.RequestsProtocol.answer.Goals as goal

pub returns-in-Ok-clause-answered : goal.returns-in-Ok-clause-answered
returns-in-Ok-clause-answered g c = (
  text (reply_of c.call.result),
  AnswersRequest-asked g.D.Desk.step g.D.Desk.fault c.args.desk.now c.call.new.self c.args.line.now c.in-Ok.call c.call.result
      c.in-Ok.ensures.asked c.call.ensures.answered,
  subst (λ (r : Reply). MatchResult c.new.result (λ made. line_bytes made ≡ ended (text r)) (λ _. TellsNoRefusal (text r)))
      c.reply_of.ensures (made_or_wanted c.reply_of.result c.new.result c.new.ensures.line c.new.ensures.refusal),
)

pub returns-in-Err-clause-answered : goal.returns-in-Err-clause-answered
returns-in-Err-clause-answered g c = (
  text (No c.in-Err.refusal),
  AnswersRequest-refused g.D.Desk.step g.D.Desk.fault c.args.desk.now c.args.desk.now c.args.line.now c.in-Err.refusal
      (Err c.in-Err.refusal)
      refl c.in-Err.ensures.too_long c.in-Err.ensures.asked refl,
  c.refusal.ensures.line,
)
