-- What a turn at a shared room does to what its pass knows. The rules are the server's own.
use Rattle.std.specs.Prelude.{◌≡◌, ℕ, ◌+◌, ◌-◌, ◌<◌, ◌≤◌, ◌↔◌, ◌⊎◌, max, [], ◌∷◌, ◌++◌, length}
use Rattle.opid.specs.declared.limits.TheConstants.{MAX_CALLS}
use mathlib.Core.List.{IsPrefix}
use Rattle.opid.specs.declared.refusal.Refusal.TheVariants.{HistoryFull}
use Rattle.room_model.specs.declared.call.Call.{Call}
use Rattle.room_model.specs.declared.reply.Reply.{Reply}
use Rattle.room_model.specs.declared.reply.Reply.TheVariants.{No}
use Rattle.room_model.specs.declared.desk_fault.DeskFault.{DeskFault}
use Rattle.room_model.specs.declared.desk_fault.DeskFault.TheVariants as Fault
use Rattle.room_model.specs.Machine.{State, answer}
use Rattle.room_model.specs.History.{state_of}
use Rattle.shared_room.specs.Views.{View}

-- a turn was taken: it found all that the pass had seen, and more perhaps; one draw is used, and no try is lost
pub record TakesTurn (v w : View) : Type 0 where
  pub begins : IsPrefix v.seen w.found
  -- it is later than all turns that the pass knew of, and the last that it knows of
  pub later : v.turns ≤ w.drawn
  pub turns : w.turns ≡ w.drawn + 1
  pub left : w.left + 1 ≡ v.left
  pub lost : w.lost ≡ v.lost

-- the turn recorded this call, under the ticket that was drawn for it, and nothing else
pub record Records (v w : View) (c : Call) : Type 0 where
  pub seen : w.seen ≡ w.found ++ (w.drawn, c) ∷ []
  pub mine : w.mine ≡ v.mine ++ (w.drawn, c) ∷ []

-- the turn recorded nothing
pub record Stays (v w : View) : Type 0 where
  pub seen : w.seen ≡ w.found
  pub mine : w.mine ≡ v.mine

-- the turn recorded nothing, though the history that it found isn't full
pub record FailsToRecord (v w : View) : Type 0 where
  pub stays : Stays v w
  pub not_full : length w.found < MAX_CALLS

-- the call was answered as the machine answers in the state of the history that was found, and was recorded; only in a
-- full history it was refused and not recorded
pub record Replies (opening : State) (v w : View) (c : Call) (r : Reply) : Type 0 where
  pub within : length w.found ≤ MAX_CALLS
  pub answered : r ≡ answer (state_of opening w.found) c
  pub full : (r ≡ No HistoryFull) ↔ (length w.found ≡ MAX_CALLS)
  pub recorded : (length w.found < MAX_CALLS) → Records v w c
  pub refused : (length w.found ≡ MAX_CALLS) → Stays v w

-- a pass's call was answered at its turn
abbrev pub Answers : State → View → View → Call → Reply → Type 0
Answers opening v w c r = TakesTurn v w × Replies opening v w c r

-- a turn that recorded nothing
abbrev pub Visits : View → View → Type 0
Visits v w = TakesTurn v w × Stays v w

-- a turn in which there was no memory, so that it recorded nothing, though the history that it found isn't full
abbrev pub LacksMemory : View → View → Type 0
LacksMemory v w = TakesTurn v w × FailsToRecord v w

-- a try was lost, and all else is as it was
abbrev pub Loses : View → View → Type 0
Loses v w = w ≡ record v { lost = v.lost + 1 }

-- n draws went to another pass
abbrev pub given_away : ℕ → View → View
given_away n v = record v { left = v.left - n }

-- the new pass, which has n draws, has made no call, and knows of the same turns
abbrev pub newcomer : ℕ → View → View
newcomer n v = record { seen = v.seen; found = []; mine = []; drawn = 0; turns = v.turns; left = n; lost = 0 }

-- a pass took in another: its draws, its calls and its lost tries, and the more of what the two had seen and of the turns that they knew of
pub record Joins (v w u : View) : Type 0 where
  pub first : IsPrefix v.seen u.seen
  pub second : IsPrefix w.seen u.seen
  pub either : (u.seen ≡ v.seen) ⊎ (u.seen ≡ w.seen)
  pub mine : u.mine ≡ v.mine ++ w.mine
  pub left : u.left ≡ v.left + w.left
  pub lost : u.lost ≡ v.lost + w.lost
  pub found : u.found ≡ v.found
  pub drawn : u.drawn ≡ v.drawn
  pub turns : u.turns ≡ max v.turns w.turns

-- two passes met: each took a turn, the first before the second, and recorded nothing
pub record Meets (a b a' b' : View) : Type 0 where
  pub first : Visits a a'
  pub second : Visits b b'
  -- the first took its turn before the second
  pub order : a'.drawn < b'.drawn
  -- which was later than all turns that the second knew of
  pub later : b.turns ≤ a'.drawn
  -- the first has seen what the second had seen
  pub told : IsPrefix b.seen a'.seen
  -- and the second has seen what the first has
  pub both : IsPrefix a'.seen b'.seen

-- a desk over a pass gave no reply: no draw was left, or there was no memory where the call would have been recorded
abbrev pub FaultsPass : View → DeskFault → View → Type 0
FaultsPass v Fault.Worn w = (v.left ≡ 0) × (w ≡ v)
FaultsPass v Fault.Memory w = LacksMemory v w
