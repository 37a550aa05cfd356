-- The trail of a room, which the lock keeps: its opening as one item, and then the calls that it recorded. It is the
-- server's own.
use Rattle.std.specs.Prelude.{ℕ, List, [], ◌∷◌, map}
use Rattle.room_model.specs.declared.call.Call.{Call}
use Rattle.room_model.specs.Machine.{State, empty_room}
use Rattle.room_model.specs.History.{Account}
use Rattle.shared_room.specs.declared.kept.Item.{Item}
use Rattle.shared_room.specs.declared.kept.Item.TheVariants.{Opened, Made}

-- the item of a recorded call
abbrev pub made : ℕ × Call → Item
made e = Made e.0 e.1

-- the opening, and then the recorded calls in their order
abbrev pub trail_of : Account → List Item
trail_of room = Opened room.opening ∷ map made room.history

-- the calls of a trail
abbrev pub calls_of : List Item → List (ℕ × Call)
calls_of [] = []
calls_of (Opened S ∷ items) = calls_of items
calls_of (Made ticket c ∷ items) = (ticket, c) ∷ calls_of items

-- how the room of a trail was opened
abbrev pub opening_in : List Item → State
opening_in [] = empty_room 0
opening_in (Opened S ∷ items) = S
opening_in (Made ticket c ∷ items) = empty_room 0
