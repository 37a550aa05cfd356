-- The answer to a request is what the desk did, or its refusal.
use Rattle.std.proofs.Common.{◌≡◌, ℕ, ◌<◌, ◌≤◌, length, List, Result, Ok, Err, MatchResult, ◌⊎◌, inl, inr, refl, sym, ap, subst}
use Rattle.std.proofs.Math.Logic.{⊎_elim}
use Rattle.std.proofs.lemmas.Bool.{cases_lt}
use Rattle.opid.specs.declared.refusal.Refusal.{Refusal}
use Rattle.opid.specs.declared.refusal.Refusal.TheVariants.{TooLong, Memory as NoMemory}
use Rattle.room_model.specs.declared.call.Call.{Call}
use Rattle.room_model.specs.declared.reply.Reply.{Reply}
use Rattle.room_model.specs.declared.reply.Reply.TheVariants.{No}
use Rattle.room_model.specs.declared.desk_fault.DeskFault.{DeskFault}
use Rattle.wire_json.specs.Request.{request}
use Rattle.wire_json.specs.Text.{text as text_of}
use Rattle.line_engine.specs.AnsweredRequests.{AnswersRequest, AnswersAsked, reply_of}

-- the answer to a line that asks a call is the outcome's
pub AnswersRequest-asked : {S : Type 0} (step : S → Call → Reply → S → Type 0) (fault : S → Call → DeskFault → S → Type 0) (old new : S)
    (line : List ℕ) (call : Call) (done : Result Reply DeskFault)
    → request line ≡ Ok call → MatchResult done (λ reply. step old call reply new) (λ why. fault old call why new)
    → AnswersRequest step fault old line (text_of (reply_of done)) new
AnswersRequest-asked {S} step fault old new line call (Ok reply) is h =
    let P : Result Call Refusal → Type 0 = λ asked. AnswersAsked step fault old asked (text_of reply) new in
    inl (subst P (sym is) (inl (reply, h, refl)))
AnswersRequest-asked {S} step fault old new line call (Err why) is h =
    let P : Result Call Refusal → Type 0 = λ asked. AnswersAsked step fault old asked (text_of (reply_of (Err why))) new in
    inl (subst P (sym is) (inr (why, h, refl)))

-- a refusal for want of memory is not that of a line that is too long
pub within_limit : {A : Type 0} (line : List ℕ) (refusal : Refusal) (asked : Result A Refusal) → asked ≡ Err refusal → refusal ≡ NoMemory
    → (65536 < length line → asked ≡ Err TooLong) → length line ≤ 65536
within_limit line refusal asked is none long =
    ⊎_elim (λ (h : 65536 < length line). let e = long h in cc) (λ (h : length line ≤ 65536). h) (cases_lt 65536 (length line))

-- the answer to a line that is refused
pub AnswersRequest-refused : {S : Type 0} (step : S → Call → Reply → S → Type 0) (fault : S → Call → DeskFault → S → Type 0) (old new : S)
    (line : List ℕ) (refusal : Refusal) (asked : Result Call Refusal)
    → asked ≡ Err refusal → (65536 < length line → asked ≡ Err TooLong) → (refusal ≡ NoMemory) ⊎ (request line ≡ Err refusal) → new ≡ old
    → AnswersRequest step fault old line (text_of (No refusal)) new
AnswersRequest-refused step fault old new line refusal asked same long (inl e) stays =
    inr (within_limit line refusal asked same e long, ap (λ t. text_of (No t)) e, stays)
AnswersRequest-refused {S} step fault old new line refusal asked same long (inr is) stays =
    let P : Result Call Refusal → Type 0 = λ r. AnswersAsked step fault old r (text_of (No refusal)) new in
    inl (subst P (sym is) (refl, stays))
