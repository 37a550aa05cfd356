-- What the public contracts say of a shared room and of its passes, which are the server's own.
use Rattle.std.specs.Prelude.{◌≤◌, ◌+◌, ◌^◌, ℕ, List, length}
use Rattle.std.specs.List.{AllByRecursion}
use Rattle.opid.specs.declared.limits.TheConstants.{MAX_OPERATIONS}
use Rattle.room_model.specs.declared.call.Call.{Call}
use Rattle.room_model.specs.Machine.{State}
use Rattle.room_model.specs.History.{IsLegal, HandsOperations, state_of, mark}
use Rattle.room_model.specs.Desks.{Owns, AreDistinct}
use Rattle.room_model.specs.Desks as desks
use Rattle.history_lock.specs.declared.pass.Sight.{Sight}
use Rattle.history_lock.specs.Locks as locks
use Rattle.shared_room.specs.declared.kept.Item.{Item}
use Rattle.shared_room.specs.declared.kept.KeptRoom.{KeptRoom}
use Rattle.shared_room.specs.declared.pass.Pass.{Pass}
use Rattle.shared_room.specs.declared.shared.SharedRoom.{SharedRoom}
use Rattle.shared_room.specs.Trails.{trail_of, calls_of, opening_in}

-- What a pass knows of the room's calls, each with its ticket.
pub record View : Type 0 where
  -- the recorded calls that it has seen
  pub seen : List (ℕ × Call)
  -- those that its last turn found
  pub found : List (ℕ × Call)
  -- those that were recorded through it, or through passes joined into it
  pub mine : List (ℕ × Call)
  -- the ticket that it drew last
  pub drawn : ℕ
  -- how many turns it knows of: the first so many, which are finished
  pub turns : ℕ
  -- how many it may still draw
  pub left : ℕ
  -- how many tries were lost through it, or through passes joined into it
  pub lost : ℕ

-- what a pass knows, in the room's words
abbrev pub view_of : Sight Item → View
view_of v = record {
  seen = calls_of v.seen;
  found = calls_of v.found;
  mine = calls_of v.mine;
  drawn = v.drawn;
  turns = length v.ends;
  left = v.left;
  lost = v.lost;
}

-- what the pass knows
abbrev pub view : Pass → View
view p = view_of (locks.sight p.pass)

-- how many calls the pass may still make
abbrev pub left : Pass → ℕ
left p = (view p).left

-- how the room was opened
abbrev pub opening : SharedRoom → State
opening room = opening_in (locks.opening_of (λ (kept : KeptRoom). trail_of kept.room.value) room.lock)

-- what a pass has seen, as a desk's
abbrev pub sight_through : State → View → desks.Sight
sight_through opening v = record { opening = opening; seen = v.seen; mine = v.mine }

-- it is a pass of this room, between two calls
pub record IsPassOf (room : SharedRoom) (p : Pass) : Type 0 where
  -- it is a pass of the room's lock
  pub pass : locks.IsPassOf room.lock p.pass
  -- without a ticket
  pub idle : locks.IsIdle p.pass
  -- what it has seen is a legal history
  pub legal : IsLegal (view p).seen
  -- whose calls hand over operations, if anything
  pub hands : AllByRecursion (λ e. HandsOperations e.1) (view p).seen
  -- and whose tickets are those of turns that it knows of
  pub marked : mark (view p).seen ≤ (view p).turns
  -- it has at most the draws of all turns that it doesn't know of
  pub within : (view p).turns + (view p).left ≤ 2 ^ 62
  -- what it has seen leads to a log within its limit
  pub short : length (state_of (opening room) (view p).seen).log ≤ MAX_OPERATIONS
  -- in which its own calls stand, each once
  pub owns : Owns (view p).mine (view p).seen
  -- no two of which have one ticket
  pub distinct : AreDistinct (view p).mine
