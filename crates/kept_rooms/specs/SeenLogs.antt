-- The log of a room, as far as a pass has seen it. The rules are the server's own.
use Rattle.std.specs.Prelude.{◌≡◌, ℕ, List, [], Option, Some, None, slice_get}
use Rattle.opid.specs.Operations.{Operation}
use Rattle.room_model.specs.History.{state_of}
use Rattle.shared_room.specs.declared.pass.Pass.{Pass}
use Rattle.shared_room.specs.declared.shared.SharedRoom.{SharedRoom}
use Rattle.shared_room.specs.Views.{view, opening}
use Rattle.ws_server.specs.declared.hall.Hall.{Hall}
use Rattle.ws_server.specs.declared.hall.HallPass.{HallPass}
use Rattle.ws_server.specs.Halls.{rooms_of}

-- the log after the calls that the pass has seen
abbrev pub log_seen : SharedRoom → Pass → List Operation
log_seen room pass = (state_of (opening room) (view pass).seen).log

-- the same, where there are both
abbrev pub log_between : Option SharedRoom → Option Pass → List Operation
log_between (Some room) (Some pass) = log_seen room pass
log_between (Some room) None = []
log_between None pass = []

-- the log of the hall's room at this place, after the calls that its pass has seen
abbrev pub seen_log : Hall → ℕ → HallPass → List Operation
seen_log hall at pass = log_between (slice_get (rooms_of hall) at) (slice_get pass.passes.items at)

-- of each room both passes have seen the same log
abbrev pub SeeAlike : Hall → HallPass → HallPass → Type 0
SeeAlike hall pass other = (at : ℕ) → seen_log hall at other ≡ seen_log hall at pass
