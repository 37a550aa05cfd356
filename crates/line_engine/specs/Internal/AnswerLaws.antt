-- That a line above a request's limit is refused.
use Rattle.std.proofs.Common.{◌≡◌, ℕ, ◌<◌, List, length, Result, Err, refl, sym, subst, inl}
use Rattle.std.proofs.lemmas.Bool.{lt-ltb}
use Rattle.opid.specs.declared.limits.TheConstants.{MAX_REQUEST_BYTES}
use Rattle.opid.specs.declared.refusal.Refusal.{Refusal}
use Rattle.opid.specs.declared.refusal.Refusal.TheVariants.{TooLong}
use Rattle.room_model.specs.declared.call.Call.{Call}
use Rattle.room_model.specs.declared.reply.Reply.{Reply}
use Rattle.room_model.specs.declared.reply.Reply.TheVariants.{No}
use Rattle.room_model.specs.declared.desk_fault.DeskFault.{DeskFault}
use Rattle.wire_json.specs.Request.{request}
use Rattle.wire_json.specs.Text.{text}
use Rattle.line_engine.specs.AnsweredRequests.{AnswersRequest, AnswersAsked}

-- a line above 65,536 bytes is too long
too_long : (line : List ℕ) → MAX_REQUEST_BYTES < length line → request line ≡ Err TooLong
too_long line long = rw (lt-ltb MAX_REQUEST_BYTES (length line) long) refl

-- and is answered so
pub AnswersRequest-long : {S : Type 0} (step : S → Call → Reply → S → Type 0) (fault : S → Call → DeskFault → S → Type 0) (old : S)
    (line : List ℕ)
    → MAX_REQUEST_BYTES < length line → AnswersRequest step fault old line (text (No TooLong)) old
AnswersRequest-long {S} step fault old line long =
    let P : Result Call Refusal → Type 0 = λ r. AnswersAsked step fault old r (text (No TooLong)) old in
    inl (subst P (sym (too_long line long)) (refl, refl))
