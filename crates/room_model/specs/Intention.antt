-- What becomes of each accepted submission: its operations stay in the room's log, and an insertion's stand at the place
-- that was asked for in the version that was named (Attiya and others 2016: what a client sees of its own insertion).
use Rattle.std.specs.Prelude.{◌≡◌, ℕ, Bool, false, ◌-◌, ◌≤◌, List, [], length, take, drop, slice_get, Some, Ok}
use mathlib.Core.List.{IsPrefix}
use Rattle.opid.specs.Operations.{Operation}
use Rattle.opid.specs.Asked.{asked_insertions_in, asked_deletions_in, IsPlaced_in}
use Rattle.opid.specs.declared.submission.Submission.TheVariants.{New}
use Rattle.room_model.specs.declared.call.Call.{Call}
use Rattle.room_model.specs.declared.call.Call.TheVariants.{Ins, Del}
use Rattle.room_model.specs.declared.reply.Reply.TheVariants as replies
use Rattle.room_model.specs.Machine.{State, counts_units, check, answer}
use Rattle.room_model.specs.History.{Account, state_of}

-- whether the call is a submission of a session whose places count UTF-16 units; no other call names a place
abbrev pub names_units : State → Call → Bool
names_units S (Ins s n v k x) = counts_units s S.outbox
names_units S (Del s n v k c) = counts_units s S.outbox
names_units S other = false

-- what a submission asks for over a log, by its place in the version that it names; other calls ask for nothing
abbrev pub asked_by : Bool → ℕ → List Operation → Call → List Operation
asked_by units site log (Ins s n v k x) = asked_insertions_in units log site v k x
asked_by units site log (Del s n v k c) = asked_deletions_in units log site v k c
asked_by units site log other = []

-- an insertion's operations stand at its place in the version of the log that it names
abbrev pub StandsAsked : Bool → List Operation → Call → List Operation → Type 0
StandsAsked units log (Ins s n v k x) ops = IsPlaced_in units log v k ops
StandsAsked units log other ops = Unit {0}

-- in this state the call is a new submission, which is answered `Ok` from one version to another
pub record IsAccepted (S : State) (c : Call) (start end : ℕ) : Type 0 where
  pub is_new : check S c ≡ Ok New
  pub answered : answer S c ≡ replies.Ok start end

-- The operations of the log between two versions are those that the submission asked for over the log's beginning up to
-- the first of them, and stand at their place.
pub record IsIntentionKept (units : Bool) (site : ℕ) (log : List Operation) (c : Call) (start end : ℕ) : Type 0 where
  pub asked : take (end - start) (drop start log) ≡ asked_by units site (take start log) c
  pub stands : StandsAsked units log c (take (end - start) (drop start log))

-- the state of a room before one of its recorded calls, counted from 0, was made
abbrev pub state_before : Account → ℕ → State
state_before room i = state_of room.opening (take i room.history)

-- each recorded submission that was accepted is kept in the room's present log, as its session counted
abbrev pub KeepsIntentions : Account → Type 0
KeepsIntentions room = (i : ℕ) (e : ℕ × Call) (start end : ℕ) → slice_get room.history i ≡ Some e
    → IsAccepted (state_before room i) e.1 start end
    → IsIntentionKept (names_units (state_before room i) e.1) room.state.site room.state.log e.1 start end

-- each earlier log of the room is a beginning of the present one, so that an earlier version is a version for good
abbrev pub OnlyGrows : Account → Type 0
OnlyGrows room = (i : ℕ) → i ≤ length room.history → IsPrefix (state_before room i).log room.state.log
