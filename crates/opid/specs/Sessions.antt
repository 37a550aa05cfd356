-- The sessions of a document in order of joining, the changes of one of them, and what a call of one is answered: the checks by cases, in
-- their order. They are the server's own.
use Rattle.std.specs.Prelude.{ℕ, Bool, ◌+◌, ◌<◌, ◌==◌, if◌then◌else◌, max, Option, MatchOption, List, [], ◌∷◌, ◌++◌, find, ◌||◌, ◌&&◌}
use Rattle.std.specs.Prelude.{nat_lt, min, Some, None, Result, Ok, Err, length}
use Rattle.opid.specs.declared.limits.TheConstants.{MAX_SESSIONS}
use Rattle.opid.specs.declared.refusal.Refusal.{Refusal}
use Rattle.opid.specs.declared.refusal.Refusal.TheVariants.{NoSession, TooManySessions, BadNumber, BadVersion, BadCount, BadHave, Memory}
use Rattle.opid.specs.declared.submission.Submission.{Submission}
use Rattle.opid.specs.declared.submission.Submission.TheVariants.{New, Repeat}
use Rattle.opid.specs.Limits.{is_bad_count}

-- a session: its number, the version that it joined at, the newest one that it was sent, the number of its last accepted
-- submission (0: none), the kept reply to that one: the versions that it led from and to, and whether its places count
-- UTF-16 units
pub record Session : Type 0 where
  pub number : ℕ
  pub first : ℕ
  pub sent : ℕ
  pub last : ℕ
  pub start : ℕ
  pub end : ℕ
  pub units : Bool

-- the sessions in order of joining, and the number that the next one gets
pub record Outbox : Type 0 where
  pub sessions : List Session
  pub next_number : ℕ

-- the session of this number
abbrev pub session_with : ℕ → List Session → Option Session
session_with s sessions = find (λ w. s == w.number) sessions

-- the session of this number is there, and its next submission has a number of 32 bits
abbrev pub MayAccept : ℕ → List Session → Type 0
MayAccept s sessions = MatchOption (session_with s sessions) ⊥ (λ w. w.last < 4294967295)

-- the session of this number is changed
abbrev pub change_session : ℕ → (Session → Session) → List Session → List Session
change_session s f [] = []
change_session s f (w ∷ ws) = if s == w.number then f w ∷ ws else w ∷ change_session s f ws

-- the session of this number is taken out; the others keep their order
abbrev pub without_session : ℕ → List Session → List Session
without_session s [] = []
without_session s (w ∷ ws) = if s == w.number then ws else w ∷ without_session s ws

-- the numbers are above `low`, rise in order of joining, and are below the next one; so no two are equal
abbrev pub HaveRisingNumbers : ℕ → ℕ → List Session → Type 0
HaveRisingNumbers low next [] = low < next
HaveRisingNumbers low next (w ∷ ws) = (low < w.number) × HaveRisingNumbers w.number next ws

-- a session that joins at a version, with its way of counting
abbrev pub joined : ℕ → ℕ → Bool → Session
joined number version units =
    record { number = number; first = version; sent = version; last = 0; start = 0; end = 0; units = units }

-- its next submission is accepted, and leads from a version to a version
abbrev pub with_accepted : ℕ → ℕ → Session → Session
with_accepted start end w = record w { last = w.last + 1; start = start; end = end }

-- it is sent what leads to a version
abbrev pub sent_to : ℕ → Session → Session
sent_to to w = record w { sent = max w.sent to }

-- no session has joined yet
abbrev pub empty_outbox : Outbox
empty_outbox = record { sessions = []; next_number = 1 }

-- a session joins at a version, with its way of counting: it stands last, and its number is not given again
abbrev pub after_join : ℕ → Bool → Outbox → Outbox
after_join version units S = record {
  sessions = S.sessions ++ joined S.next_number version units ∷ [];
  next_number = S.next_number + 1;
}

-- a session left
abbrev pub after_leave : ℕ → Outbox → Outbox
after_leave s S = record S { sessions = without_session s S.sessions }

-- a session's next submission was accepted
abbrev pub after_accept : ℕ → ℕ → ℕ → Outbox → Outbox
after_accept s start end S = record S { sessions = change_session s (with_accepted start end) S.sessions }

-- a session was sent what leads to a version
abbrev pub after_pull : ℕ → ℕ → Outbox → Outbox
after_pull s to S = record S { sessions = change_session s (sent_to to) S.sessions }

-- a submission with the number n in version v: a repeat of the last accepted number is answered with the kept reply, and
-- what else it says is not looked at
abbrev pub submission_of : Option Session → ℕ → ℕ → Result Submission Refusal
submission_of None n v = Err NoSession
submission_of (Some w) n v =
    if n == w.last && nat_lt 0 n then Ok (Repeat w.start w.end) else (
    if n == w.last + 1 then (
    if nat_lt v w.first || nat_lt w.sent v then Err BadVersion else Ok New)
    else Err BadNumber)

-- a pull of at most `max` edits by an editor that has the version `have`: the versions that the edits lead from and to
abbrev pub pull_of : Option Session → ℕ → ℕ → ℕ → Result (ℕ × ℕ) Refusal
pull_of None have max version = Err NoSession
pull_of (Some w) have max version =
    if is_bad_count max then Err BadCount else (
    if nat_lt have w.first || nat_lt w.sent have then Err BadHave else
    Ok (have, min (have + max) version))

-- whether the places of this session count UTF-16 units
abbrev pub units_of_session : Option Session → Result Bool Refusal
units_of_session None = Err NoSession
units_of_session (Some w) = Ok w.units

-- why a join is refused: 64 sessions are there, or else memory was refused
abbrev pub join_refusal : List Session → Refusal
join_refusal sessions = if nat_lt (length sessions) MAX_SESSIONS then Memory else TooManySessions
