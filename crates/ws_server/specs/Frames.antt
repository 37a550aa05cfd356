-- What answers a message of a connection: the opening of a room, or a call of the room that it opened. The rules are the server's own.
use Rattle.std.specs.Prelude.{◌≡◌, ◌⊎◌, ℕ, ◌≤◌, List, length, slice_get, slice_set, Option, Some, None, Result, Ok, Err, codes}
use Rattle.opid.specs.declared.limits.TheConstants.{MAX_REQUEST_BYTES}
use Rattle.opid.specs.declared.refusal.Refusal.{Refusal}
use Rattle.opid.specs.declared.refusal.Refusal.TheVariants as Why
use Rattle.room_model.specs.declared.reply.Reply.TheVariants.{No}
use Rattle.wire_json.specs.Request as requests
use Rattle.wire_json.specs.Text.{text}
use Rattle.shared_room.specs.declared.pass.Pass.{Pass}
use Rattle.shared_room.specs.declared.shared.SharedRoom.{SharedRoom}
use Rattle.shared_room.specs.Views.{View, view, opening}
use Rattle.shared_room.specs.PassSteps.{pass_step, pass_fault}
use Rattle.ws_server.specs.declared.conn.Conn.{Conn}
use Rattle.ws_server.specs.declared.hall.Hall.{Hall}
use Rattle.ws_server.specs.Halls.{rooms_of, place_named}
use Rattle.line_engine.specs.AnsweredRequests.{AnswersRequest}
use Rattle.ws_server.specs.Gates.{Gated, gated_step, gated_fault}

-- What serves a connection: what is kept of it, a pass of each room of the hall, and its gate.
pub record Side (G : Type 0) : Type 0 where
  pub conn : Conn
  pub passes : List Pass
  pub gate : G

-- a message over the pass of a room, behind the gate: just what the line engine answers to these bytes as one line
abbrev pub AnswersOver : {G : Type 0} → (G → ℕ → View → G → Type 0) → SharedRoom → Gated Pass G → List ℕ → List ℕ → Gated Pass G → Type 0
AnswersOver told_before room old bytes answer new =
    AnswersRequest (gated_step told_before (pass_step (opening room))) (gated_fault told_before pass_fault)
    (record { desk = view old.desk; calls = old.calls; gate = old.gate; made = old.made }) bytes answer
    (record { desk = view new.desk; calls = new.calls; gate = new.gate; made = new.made })

-- the text that tells that a room was opened
abbrev pub opened_text : List ℕ
opened_text = codes "{\"r\":\"opened\"}"

-- the answer to an opening: the room at this place, or that there is none
abbrev pub OpensAt : Option ℕ → List ℕ → Option ℕ → Type 0
OpensAt (Some at) answer opened = (answer ≡ opened_text) × (opened ≡ Some at)
OpensAt None answer opened = (answer ≡ text (No Why.NoRoom)) × (opened ≡ None)

-- the answer to what an `open` asks for, and the room that is opened then
abbrev pub OpensAsked : Hall → Result (List ℕ) Refusal → List ℕ → Option ℕ → Type 0
OpensAsked hall (Ok name) answer opened = OpensAt (place_named hall name) answer opened
OpensAsked hall (Err refusal) answer opened = (answer ≡ text (No refusal)) × (opened ≡ None)

-- the answer to a message of a connection that has opened no room
abbrev pub OpensRoom : Hall → List ℕ → List ℕ → Option ℕ → Type 0
OpensRoom hall bytes answer opened =
    OpensAsked hall (requests.room_asked_for bytes) answer opened
    ⊎ ((length bytes ≤ MAX_REQUEST_BYTES) × (answer ≡ text (No Why.Memory)) × (opened ≡ None))

-- the answer to a message of a connection whose room is at this place, or that has opened none
abbrev pub AnswersAt : {G : Type 0} → (G → ℕ → View → G → Type 0) → Hall → Option ℕ → Side G → List ℕ → List ℕ → Option ℕ → Side G → Type 0
AnswersAt told_before hall None old bytes answer made new =
    (new.passes ≡ old.passes) × (new.conn.calls ≡ old.conn.calls) × (new.gate ≡ old.gate) × (made ≡ None)
    × OpensRoom hall bytes answer new.conn.opened
AnswersAt told_before hall (Some at) old bytes answer made new =
    (new.conn.opened ≡ Some at)
    × ((room : SharedRoom) × (p q : Pass) × (slice_get (rooms_of hall) at ≡ Some room) × (slice_get old.passes at ≡ Some p)
    × (new.passes ≡ slice_set old.passes at q)
    × AnswersOver told_before room (record { desk = p; calls = old.conn.calls; gate = old.gate; made = None }) bytes answer
    (record { desk = q; calls = new.conn.calls; gate = new.gate; made = made }))

-- the answer to a message, and the number of the call that it made, if it made one: until a room is opened, an opening; from then on
-- a call of that room. The passes of the others are as before, and only a call is told to the gate and counted
abbrev pub AnswersFrame : {G : Type 0} → (G → ℕ → View → G → Type 0) → Hall → Side G → List ℕ → List ℕ → Option ℕ → Side G → Type 0
AnswersFrame told_before hall old bytes answer made new = AnswersAt told_before hall old.conn.opened old bytes answer made new
