-- The answer to a line that is a request, over a desk's own steps. That a request has a limit is a case of `request`. The rules
-- are the server's own.
use Rattle.std.specs.Prelude.{◌≡◌, ◌⊎◌, ℕ, ◌≤◌, List, length, Result, Ok, Err}
use Rattle.opid.specs.declared.limits.TheConstants.{MAX_REQUEST_BYTES}
use Rattle.opid.specs.declared.refusal.Refusal.{Refusal}
use Rattle.opid.specs.declared.refusal.Refusal.TheVariants as Why
use Rattle.room_model.specs.declared.call.Call.{Call}
use Rattle.room_model.specs.declared.reply.Reply.{Reply}
use Rattle.room_model.specs.declared.reply.Reply.TheVariants.{No}
use Rattle.room_model.specs.declared.desk_fault.DeskFault.{DeskFault}
use Rattle.room_model.specs.declared.desk_fault.DeskFault.TheVariants.{Worn, Memory}
use Rattle.wire_json.specs.Request.{request}
use Rattle.wire_json.specs.Text.{text}

-- what a desk did: a reply, or why there is none
abbrev pub reply_of : Result Reply DeskFault → Reply
reply_of (Ok reply) = reply
reply_of (Err Worn) = No Why.Worn
reply_of (Err Memory) = No Why.Memory

-- the answer to a call is a reply of the desk's, which goes a step, or tells its fault; a refused line leaves the desk as it was
abbrev pub AnswersAsked : {S : Type 0} → (S → Call → Reply → S → Type 0) → (S → Call → DeskFault → S → Type 0) → S → Result Call Refusal
    → List ℕ → S → Type 0
AnswersAsked step fault old (Ok call) answer new =
    ((reply : Reply) × step old call reply new × (answer ≡ text reply))
    ⊎ ((why : DeskFault) × fault old call why new × (answer ≡ text (reply_of (Err why))))
AnswersAsked step fault old (Err refusal) answer new = (answer ≡ text (No refusal)) × (new ≡ old)

-- the answer to a line; a line that isn't too long may find no memory, and leaves the desk as it was
abbrev pub AnswersRequest : {S : Type 0} → (S → Call → Reply → S → Type 0) → (S → Call → DeskFault → S → Type 0) → S → List ℕ → List ℕ → S
    → Type 0
AnswersRequest step fault old line answer new =
    AnswersAsked step fault old (request line) answer new
    ⊎ ((length line ≤ MAX_REQUEST_BYTES) × (answer ≡ text (No Why.Memory)) × (new ≡ old))
