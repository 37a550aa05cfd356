-- An editor of a session: the text and the version that it makes of the replies that it is given, in whatever order
-- and however often they come. It is the server's own.
use Rattle.std.specs.Prelude.{◌≡◌, ℕ, Bool, false, ◌+◌, ◌≤◌, ◌==◌, if◌then◌else◌, Option, Some, option_map}
use Rattle.std.specs.Prelude.{option_and_then, List, [], ◌∷◌, length, take}
use Rattle.opid.specs.declared.edit.Edit.{Edit}
use Rattle.opid.specs.Operations.{Operation}
use Rattle.opid.specs.Units.{text_in}
use Rattle.opid.specs.Reading.{reading_in_at}
use Rattle.opid.specs.Splice.{play_in}
use Rattle.opid.specs.Sessions.{Session}
use Rattle.room_model.specs.declared.reply.Reply.{Reply}
use Rattle.room_model.specs.declared.reply.Reply.TheVariants.{Joined, Ok, Edits, Left, Ops, Put, Text, No}

-- what an editor shows: its text, and the version that it says it has
pub record Editor : Type 0 where
  pub text : List ℕ
  pub version : ℕ

-- before any reply
abbrev pub empty_editor : Editor
empty_editor = record { text = []; version = 0 }

-- Edits that lead on from the editor's version are played in order, and each makes one version; other edits are
-- ignored. There is no value where one of them lies outside the text. The text is counted as the session's places are.
abbrev pub with_edits_in : Bool → ℕ → List Edit → Editor → Option Editor
with_edits_in units start es E =
    if start == E.version then option_map (λ t. record { text = t; version = E.version + length es }) (play_in units E.text es) else Some E

-- A session's joined reply gives the text, put in at 0 into the empty text, and the version. No reply but this and
-- edits changes anything.
abbrev pub with_reply_in : Bool → Reply → Editor → Option Editor
with_reply_in units (Joined s v x) E = Some (record { text = text_in units x; version = v })
with_reply_in units (Edits start es) E = with_edits_in units start es E
with_reply_in units (Ok start end) E = Some E
with_reply_in units Left E = Some E
with_reply_in units (Ops start ops) E = Some E
with_reply_in units (Put os) E = Some E
with_reply_in units (Text v x) E = Some E
with_reply_in units (No e) E = Some E

-- the editor after replies, one after another
abbrev pub editor_from_in : Bool → Editor → List Reply → Option Editor
editor_from_in units E [] = Some E
editor_from_in units E (r ∷ rs) = option_and_then (λ F. editor_from_in units F rs) (with_reply_in units r E)

-- an editor that was given these replies, one after another
abbrev pub editor_in : Bool → List Reply → Option Editor
editor_in units rs = editor_from_in units empty_editor rs

-- The editor reads the version of the log that it says it has, which is from the session's first to its sent one; and
-- these are versions of the log. Its text is counted as the session's places are.
pub record IsInStep (log : List Operation) (w : Session) (E : Editor) : Type 0 where
  pub reads : E.text ≡ reading_in_at w.units log E.version
  pub first : w.first ≤ E.version
  pub sent : E.version ≤ w.sent
  pub within : w.sent ≤ length log

-- a beginning of the reply's edits was played, or nothing at all
abbrev pub FollowsPart_in : Bool → Reply → Editor → Editor → Type 0
FollowsPart_in units (Edits start es) E F = (n : ℕ) × (n ≤ length es) × (with_edits_in units start (take n es) E ≡ Some F)
FollowsPart_in units other E F = F ≡ E

-- a reply that is played where characters are counted
abbrev pub with_reply : Reply → Editor → Option Editor
with_reply r E = with_reply_in false r E

-- a part of a reply that is played where characters are counted
abbrev pub FollowsPart : Reply → Editor → Editor → Type 0
FollowsPart r E F = FollowsPart_in false r E F
