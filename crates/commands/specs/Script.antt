-- Scripts of a world: each line asks for one event, in one of three forms. Words have one space between them, numbers are
-- written in decimal. The forms are the server's own.
use Rattle.std.specs.Prelude.{◌≡◌, ◌⊎◌, ℕ, ◌^◌, ◌<◌, ◌≤◌, Result, Ok, Err, List, ◌∷◌, ◌++◌, length}
use Rattle.std.specs.Prelude.{codes, decimal}
use Rattle.opid.specs.declared.refusal.Refusal.{Refusal}
use Rattle.opid.specs.declared.refusal.Refusal.TheVariants.{BadField, TooLong}
use Rattle.room_model.specs.declared.event.Event.{Event}
use Rattle.room_model.specs.declared.event.Event.TheVariants as events
use Rattle.operation_json.specs.Members.{◌>>=◌}
use Rattle.operation_json.specs.Operations.{site_of}
use Rattle.wire_json.specs.Request.{request}
use Rattle.commands.specs.declared.script.Form.{Form}
use Rattle.commands.specs.declared.script.Form.TheVariants.{Call, Carry, Fork}

-- two texts with one space between, which is the byte 32
abbrev pub spaced : List ℕ → List ℕ → List ℕ
spaced first rest = first ++ 32 ∷ rest

-- how a form is written
abbrev pub line_of : Form → List ℕ
line_of (Call site bytes) = spaced (codes "call") (spaced (decimal site) bytes.now)
line_of (Carry start n to) = spaced (codes "carry") (spaced (decimal start) (spaced (decimal n) (decimal to)))
line_of (Fork new start n) = spaced (codes "fork") (spaced (decimal new) (spaced (decimal start) (decimal n)))

-- its numbers are at most 4,294,967,295
abbrev pub IsFormInRange : Form → Type 0
IsFormInRange (Call site bytes) = site < 2 ^ 32
IsFormInRange (Carry start n to) = (start < 2 ^ 32) × (n < 2 ^ 32) × (to < 2 ^ 32)
IsFormInRange (Fork new start n) = (new < 2 ^ 32) × (start < 2 ^ 32) × (n < 2 ^ 32)

-- the line has this form
abbrev pub IsForm : List ℕ → Form → Type 0
IsForm line form = (line ≡ line_of form) × IsFormInRange form

-- ---- what a line asks for

-- the event that a form asks for; sites are seen before the request is read
abbrev pub event_of : Form → Result Event Refusal
event_of (Call site bytes) = do
  at ← site_of site
  call ← request bytes.now
  Ok (events.Call at call)
event_of (Carry start n to) = do
  source ← site_of start
  target ← site_of to
  Ok (events.Carry source n target)
event_of (Fork new start n) = do
  opened ← site_of new
  source ← site_of start
  Ok (events.Fork opened source n)

-- the line asks for an event, or is refused: it is too long, or has one of the forms, or none
abbrev pub Asks : List ℕ → Result Event Refusal → Type 0
Asks line asked =
    ((65600 < length line) × (asked ≡ Err TooLong))
    ⊎ ((length line ≤ 65600) × ((form : Form) × IsForm line form × (asked ≡ event_of form)))
    ⊎ ((length line ≤ 65600) × ((form : Form) → IsForm line form → ⊥) × (asked ≡ Err BadField))
