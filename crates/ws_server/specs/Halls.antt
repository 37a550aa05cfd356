-- What the public contracts say of a hall and of the passes of its rooms, which are the server's own.
use Rattle.std.specs.Prelude.{◌≡◌, ◌<◌, ◌^◌, ℕ, zero, suc, length, IfSome, List, [], ◌∷◌, Option, map, bytes_eq, string_bytes}
use Rattle.opid.specs.Delivered.{ReplicaState}
use Rattle.room_model.specs.Machine.{empty_room, room_over}
use Rattle.indexmap.specs.IndexMap.{index_of_by}
use Rattle.shared_room.specs.declared.pass.Pass.{Pass}
use Rattle.shared_room.specs.declared.shared.SharedRoom.{SharedRoom}
use Rattle.shared_room.specs.Turns.{given_away, newcomer}
use Rattle.shared_room.specs.Views.{View, view, opening, IsPassOf}
use Rattle.ws_server.specs.declared.conn.Conn.{Conn}
use Rattle.ws_server.specs.declared.hall.Hall.{Hall}
use Rattle.ws_server.specs.declared.hall.HallPass.{HallPass}

-- the hall's rooms, in the order of their names
abbrev pub rooms_of : Hall → List SharedRoom
rooms_of hall = map (λ e. e.1) hall.rooms.entries

-- the place of the room with this name
abbrev pub place_named : Hall → List ℕ → Option ℕ
place_named hall name = index_of_by (λ key. bytes_eq name (string_bytes key)) hall.rooms

-- each pass is one of the room at its place
abbrev pub ArePassesOf : List SharedRoom → List Pass → Type 0
ArePassesOf [] [] = Unit {0}
ArePassesOf (room ∷ rooms) (pass ∷ passes) = IsPassOf room pass × ArePassesOf rooms passes
ArePassesOf [] (pass ∷ passes) = ⊥
ArePassesOf (room ∷ rooms) [] = ⊥

-- there is a pass of each of the hall's rooms
abbrev pub IsHallPassOf : Hall → HallPass → Type 0
IsHallPassOf hall pass = ArePassesOf (rooms_of hall) pass.passes.items

-- the room that the connection opened is one of the hall's
abbrev pub IsConnOf : Hall → Conn → Type 0
IsConnOf hall conn = IfSome conn.opened (λ at. at < length (rooms_of hall))

-- the rooms' names, in their order
abbrev pub names_of : Hall → List (List ℕ)
names_of hall = map (λ e. string_bytes e.0) hall.rooms.entries

-- a pass that has seen no call and made none, and may make 2^62
abbrev pub first_view : View
first_view = record { seen = []; found = []; mine = []; drawn = 0; turns = 0; left = 2 ^ 62; lost = 0 }

-- An empty room of the site for each name, in the order of the names, and the first pass of each.
pub record IsOpened (site : ℕ) (asked : List (List ℕ)) (hall : Hall) (pass : HallPass) : Type 0 where
  pub names : names_of hall ≡ asked
  pub rooms : map opening (rooms_of hall) ≡ map (λ name. empty_room site) asked
  pub passes : map view pass.passes.items ≡ map (λ name. first_view) asked

-- A room over the log of each replica, under the name at its place, and the first pass of each.
pub record IsOpenedOver (asked : List (List ℕ)) (replicas : List ReplicaState) (hall : Hall) (pass : HallPass) : Type 0 where
  pub names : names_of hall ≡ asked
  pub rooms : map opening (rooms_of hall) ≡ map (λ r. room_over r.site r.log) replicas
  pub passes : map view pass.passes.items ≡ map (λ name. first_view) asked

-- each of the first so many passes handed `count` draws to a new one, and the others are as before
abbrev pub AreSplit : ℕ → ℕ → List Pass → List Pass → List Pass → Type 0
AreSplit count zero old new given = (new ≡ old) × (given ≡ [])
AreSplit count (suc n) (p ∷ old) (q ∷ new) (r ∷ given) =
    (view q ≡ given_away count (view p)) × (view r ≡ newcomer count (view p)) × AreSplit count n old new given
AreSplit count (suc n) [] new given = ⊥
AreSplit count (suc n) (p ∷ old) [] given = ⊥
AreSplit count (suc n) (p ∷ old) (q ∷ new) [] = ⊥
