-- What a look at a room of a hall gives and does. The rules are the server's own.
use Rattle.std.specs.Prelude.{◌≡◌, ℕ, List, Some, Result, slice_get, slice_set}
use Rattle.opid.specs.declared.refusal.Refusal.{Refusal}
use Rattle.shared_room.specs.declared.look.Look.{Look}
use Rattle.shared_room.specs.declared.pass.Pass.{Pass}
use Rattle.shared_room.specs.declared.shared.SharedRoom.{SharedRoom}
use Rattle.shared_room.specs.Views.{view, opening}
use Rattle.shared_room.specs.Looks.{LooksAt}
use Rattle.ws_server.specs.declared.hall.Hall.{Hall}
use Rattle.ws_server.specs.Halls.{rooms_of}

-- a look at the room at this place, through the pass there, gave this; the other passes are as before
abbrev pub LooksInto : Hall → ℕ → List Pass → ℕ → Result Look Refusal → List Pass → Type 0
LooksInto hall at old after result new =
    (room : SharedRoom) × (p q : Pass) × (slice_get (rooms_of hall) at ≡ Some room) × (slice_get old at ≡ Some p)
    × (new ≡ slice_set old at q) × LooksAt (opening room) (view p) (view q) after result
