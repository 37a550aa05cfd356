-- The answer to a message that asks a call is what the desk did, behind the gate.
use Rattle.std.proofs.Common.{◌≡◌, ℕ, List, Result, Ok, Err, MatchResult}
use Rattle.room_model.specs.declared.call.Call.{Call}
use Rattle.room_model.specs.declared.reply.Reply.{Reply}
use Rattle.room_model.specs.declared.desk_fault.DeskFault.{DeskFault}
use Rattle.wire_json.specs.Request.{request}
use Rattle.wire_json.specs.Text.{text as text_of}
use Rattle.line_engine.specs.AnsweredRequests.{AnswersRequest, reply_of}
use Rattle.line_engine.proofs.Answering.{AnswersRequest-asked}
use Rattle.ws_server.specs.Gates.{Gated, TakesNumber, gated_step, gated_fault}

-- what the desk did, it did behind the gate
gated : {S G : Type 0} (told_before : G → ℕ → S → G → Type 0) (step : S → Call → Reply → S → Type 0)
    (fault : S → Call → DeskFault → S → Type 0) (old new : Gated S G) (call : Call) (done : Result Reply DeskFault)
    → TakesNumber told_before old new
    → MatchResult done (λ reply. step old.desk call reply new.desk) (λ why. fault old.desk call why new.desk)
    → MatchResult done (λ reply. gated_step told_before step old call reply new) (λ why. gated_fault told_before fault old call why new)
gated told_before step fault old new call (Ok reply) takes did = (takes, did)
gated told_before step fault old new call (Err why) takes did = (takes, did)

-- the answer to a message that asks a call, behind a gate
pub AnswersRequest-gated : {S G : Type 0} (told_before : G → ℕ → S → G → Type 0) (step : S → Call → Reply → S → Type 0)
    (fault : S → Call → DeskFault → S → Type 0)
    (old new : Gated S G) (line : List ℕ) (call : Call) (done : Result Reply DeskFault)
    → request line ≡ Ok call → TakesNumber told_before old new
    → MatchResult done (λ reply. step old.desk call reply new.desk) (λ why. fault old.desk call why new.desk)
    → AnswersRequest (gated_step told_before step) (gated_fault told_before fault) old line (text_of (reply_of done)) new
AnswersRequest-gated told_before step fault old new line call done is takes did =
    AnswersRequest-asked (gated_step told_before step) (gated_fault told_before fault) old new line call done is
    (gated told_before step fault old new call done takes did)
