-- What a call does with the parts of a room.
use Rattle.std.specs.Prelude.{◌≡◌, ◌≢◌, ◌⊎◌, ℕ, ◌+◌, ◌<◌, false, IsOk, Option, Some, None, Result, Ok, Err, List, ◌++◌, length}
use Rattle.std.specs.declared.alloc.AllocError.{AllocError}
use Rattle.opid.specs.declared.limits.TheConstants.{MAX_SESSIONS}
use Rattle.opid.specs.declared.refusal.Refusal.{Refusal}
use Rattle.opid.specs.declared.refusal.Refusal.TheVariants.{Memory}
use Rattle.opid.specs.Limits.{is_bad_count}
use Rattle.opid.specs.Operations.{Operation}
use Rattle.opid.specs.Delivered.{part_of}
use Rattle.opid.specs.Delivered.{ReplicaState}
use Rattle.room_model.specs.declared.outcome.Outcome.{Outcome}
use Rattle.room_model.specs.Deliveries.{hand_over}
use Rattle.opid.specs.declared.submission.Submission.TheVariants.{New, Repeat}
use Rattle.opid.specs.Sessions.{Outbox, after_accept}
use Rattle.room_model.specs.declared.call.Call.{Call}
use Rattle.room_model.specs.declared.call.Call.TheVariants.{Join, Leave, Ops, Put}
use Rattle.room_model.specs.declared.reply.Reply.{Reply}
use Rattle.room_model.specs.declared.reply.Reply.TheVariants as replies
use Rattle.room_model.specs.Machine.{State, Finding, recorded_answer, recorded_next}

-- the state of these parts, with so many calls counted
abbrev pub state_with : ReplicaState → Outbox → ℕ → State
state_with replica outbox count = record { site = replica.site; log = replica.log; held = replica.held; outbox = outbox; count = count }

-- a call that is recorded, however many were: its answer, and the replica and the sessions then
pub record Does (replica : ReplicaState) (outbox : Outbox) (c : Call) (reply : Reply) (replica' : ReplicaState)
    (outbox' : Outbox) : Type 0 where
  pub answered : (count : ℕ) → reply ≡ recorded_answer (state_with replica outbox count) c
  pub done : (count : ℕ) → state_with replica' outbox' count ≡ recorded_next (state_with replica outbox count) c

-- where a call that is recorded may find no memory: a join below 64 sessions, a part that is there, a put of 1 to 64 operations
abbrev pub MayLackMemory : State → Call → Type 0
MayLackMemory S (Join units) = length S.outbox.sessions < MAX_SESSIONS
MayLackMemory S (Leave s) = ⊥
MayLackMemory S (Ops after most) = IsOk (part_of S.log after most)
MayLackMemory S (Put ops) = is_bad_count (length ops) ≡ false
MayLackMemory S other = Unit {0}

-- the reply to a submission that isn't the session's next one
abbrev pub reply_at_once : Finding → Option Reply
reply_at_once (Err e) = Some (replies.No e)
reply_at_once (Ok (Repeat start end)) = Some (replies.Ok start end)
reply_at_once (Ok New) = None

-- A submission went to the replica: these operations for so many elements stand behind its log, and the versions that this led
-- from and to are told; or why it is refused, and nothing has changed.
abbrev pub Submits : Option Refusal → Result (ℕ × ℕ) Refusal → ReplicaState → List Operation → ℕ → ReplicaState → Type 0
Submits r (Ok p) R more n T = (r ≡ None) × (p ≡ (length R.log, length R.log + n))
    × ((count : ℕ) (outbox : Outbox) → state_with T outbox count ≡ state_with (record R { log = R.log ++ more }) outbox count)
Submits r (Err e) R more n T = ((r ≡ Some e) ⊎ ((r ≡ None) × (e ≡ Memory))) × (T ≡ R)

-- session s's next submission led from a version to a version, or was refused, or found no memory
abbrev pub Accepts : ℕ → Result (ℕ × ℕ) Refusal → Outbox → Result Reply AllocError → Outbox → Type 0
Accepts s (Ok r) old (Ok reply) new = (reply ≡ replies.Ok r.0 r.1) × (new ≡ after_accept s r.0 r.1 old)
Accepts s (Ok r) old (Err why) new = ⊥
Accepts s (Err e) old (Ok reply) new = (e ≢ Memory) × (reply ≡ replies.No e) × (new ≡ old)
Accepts s (Err e) old (Err why) new = (e ≡ Memory) × (new ≡ old)

-- the operations were handed over to the replica, one after another
pub record IsHandedOver (R : ReplicaState) (ops : List Operation) (outcomes : List Outcome) (T : ReplicaState) : Type 0 where
  pub site : T.site ≡ R.site
  pub handed : record { outcomes = outcomes; log = T.log; held = T.held } ≡ hand_over R.site R.log R.held ops
