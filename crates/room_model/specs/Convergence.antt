-- Editors and their room: which replies a session was given, and what an editor that plays them then reads
-- (Attiya and others 2016: each client's text is what its replica reads).
use Rattle.std.specs.Prelude.{◌≡◌, ◌⊎◌, ℕ, Bool, false, ◌==◌, if◌then◌else◌, Option, Some, None, option_map, option_and_then, MatchOption}
use Rattle.std.specs.Prelude.{List, [], ◌∷◌}
use Rattle.std.specs.List.{AllByRecursion}
use Rattle.opid.specs.Sessions.{Session, session_with}
use Rattle.room_model.specs.declared.call.Call.{Call}
use Rattle.room_model.specs.declared.call.Call.TheVariants.{Join, Ins, Del, Pull, Leave, Ops, Put, Read}
use Rattle.room_model.specs.declared.reply.Reply.{Reply}
use Rattle.room_model.specs.declared.reply.Reply.TheVariants as replies
use Rattle.room_model.specs.Machine.{State, may_record, answer, next}
use Rattle.room_model.specs.History.{Account}
use Rattle.room_model.specs.Editor.{Editor, empty_editor, with_reply_in, editor_in, IsInStep}

-- the session that a joined reply opens
abbrev pub opened_by : Reply → Option ℕ
opened_by (replies.Joined s v x) = Some s
opened_by other = None

-- the session that the reply to a call is given to
abbrev pub given_to : Call → Reply → Option ℕ
given_to (Join units) r = opened_by r
given_to (Ins s n v k x) r = Some s
given_to (Del s n v k c) r = Some s
given_to (Pull s have max) r = Some s
given_to (Leave s) r = Some s
given_to (Ops after most) r = None
given_to (Put ops) r = None
given_to Read r = None

-- In a full history the calls of session s are refused, and none is recorded.
abbrev pub WasRefused : ℕ → State → Reply → Type 0
WasRefused s S r = (may_record S ≡ false) × (c : Call) × (r ≡ answer S c) × (given_to c r ≡ Some s)

-- on these calls, from this state on, session s was given the reply, or a refusal once no call is recorded any more
abbrev pub WasGiven : ℕ → State → List (ℕ × Call) → Reply → Type 0
WasGiven s S [] r = WasRefused s S r
WasGiven s S (e ∷ es) r = ((r ≡ answer S e.1) × (given_to e.1 r ≡ Some s)) ⊎ WasGiven s (next S e.1) es r

-- what was found, or else what was found before
abbrev pub or_before : Option Session → Option Session → Option Session
or_before (Some w) before = Some w
or_before None before = before

-- session s as it was when it was last there
abbrev pub last_known : ℕ → State → List (ℕ × Call) → Option Session → Option Session
last_known s S [] before = or_before (session_with s S.outbox.sessions) before
last_known s S (e ∷ es) before = last_known s (next S e.1) es (or_before (session_with s S.outbox.sessions) before)

-- Whatever replies of its session an editor that counts as the session does is given after the joined one, in any
-- order and as often as wished: its text is the reading of the version that it says it has, which is from the session's
-- first to its sent one (where the session left, to the one that it had then).
abbrev pub EditorsConverge : Account → Type 0
EditorsConverge room = (s : ℕ) (joined : Reply) (later : List Reply) → opened_by joined ≡ Some s
    → WasGiven s room.opening room.history joined → AllByRecursion (WasGiven s room.opening room.history) later
    → MatchOption (last_known s room.opening room.history None) ⊥
    (λ w. MatchOption (editor_in w.units (joined ∷ later)) ⊥ (IsInStep room.state.log w))

-- ---- an editor that is given each reply once, in order

-- the session that was found is this one
abbrev pub is_session : ℕ → Option ℕ → Bool
is_session s None = false
is_session s (Some t) = t == s

-- the replies that session s was given, each once, in order
abbrev pub replies_to : ℕ → State → List (ℕ × Call) → List Reply
replies_to s S [] = []
replies_to s S (e ∷ es) =
    if is_session s (given_to e.1 (answer S e.1)) then answer S e.1 ∷ replies_to s (next S e.1) es else replies_to s (next S e.1) es

-- in this state a pull of session s, while that is there, names the version of this editor
abbrev pub NamesVersion : ℕ → State → Option Editor → Call → Type 0
NamesVersion s S E (Pull t have max) =
    t ≡ s → (w : Session) → session_with s S.outbox.sessions ≡ Some w → option_map (λ F. F.version) E ≡ Some have
NamesVersion s S E other = Unit {0}

-- the editor after a call: its reply is given to session s, or not
abbrev pub after_call : Bool → ℕ → State → Call → Option Editor → Option Editor
after_call units s S c E = if is_session s (given_to c (answer S c)) then option_and_then (with_reply_in units (answer S c)) E else E

-- each pull of session s, from its joining on, names the version that its editor then has, which is given each reply at once
abbrev pub PullsInStep : Bool → ℕ → State → List (ℕ × Call) → Option Editor → Type 0
PullsInStep units s S [] E = Unit {0}
PullsInStep units s S (e ∷ es) E = NamesVersion s S E e.1 × PullsInStep units s (next S e.1) es (after_call units s S e.1 E)

-- An editor that counts as its session does, is given each of the session's replies once, in order, and whose pulls from its
-- joining on name the version that it then has, has the session's sent version.
abbrev pub EditorsKeepUp : Account → Type 0
EditorsKeepUp room = (s : ℕ) → MatchOption (last_known s room.opening room.history None) (Unit {0})
    (λ w. PullsInStep w.units s room.opening room.history (Some empty_editor)
    → MatchOption (editor_in w.units (replies_to s room.opening room.history)) ⊥ (λ E. E.version ≡ w.sent))
