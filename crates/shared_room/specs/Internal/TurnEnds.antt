-- What the end of a turn does to what its pass knows, from inside of the turn.
use Rattle.std.specs.Prelude.{◌≡◌, ◌+◌, Result, Ok, Err}
use Rattle.opid.specs.declared.refusal.Refusal.{Refusal}
use Rattle.opid.specs.declared.refusal.Refusal.TheVariants.{Memory}
use Rattle.room_model.specs.declared.call.Call.{Call}
use Rattle.room_model.specs.declared.reply.Reply.{Reply}
use Rattle.room_model.specs.Machine.{State}
use Rattle.shared_room.specs.Views.{View}
use Rattle.shared_room.specs.Turns.{Replies, FailsToRecord}

-- a turn ended, from inside of it: the call was answered, or there was no memory
abbrev pub EndsTurn : State → View → View → Call → Result Reply Refusal → Type 0
EndsTurn opening v w c (Ok r) = Replies opening v w c r
EndsTurn opening v w c (Err e) = (e ≡ Memory) × FailsToRecord v w

-- from inside a turn to its end
pub record Keeps (v w : View) : Type 0 where
  pub found : w.found ≡ v.found
  pub drawn : w.drawn ≡ v.drawn
  pub turns : w.turns ≡ v.turns + 1
  pub left : w.left ≡ v.left
  pub lost : w.lost ≡ v.lost
