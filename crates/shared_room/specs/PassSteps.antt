-- A step and a fault of a desk over a pass, in what the pass knows. They are the server's own.
use Rattle.room_model.specs.declared.call.Call.{Call}
use Rattle.room_model.specs.declared.reply.Reply.{Reply}
use Rattle.room_model.specs.declared.desk_fault.DeskFault.{DeskFault}
use Rattle.room_model.specs.Machine.{State}
use Rattle.shared_room.specs.Views.{View}
use Rattle.shared_room.specs.Turns.{Answers, FaultsPass}

-- in a room that was opened so, a call was answered at a turn of the pass
abbrev pub pass_step : State → View → Call → Reply → View → Type 0
pass_step opening v call reply w = Answers opening v w call reply

-- no draw was left, or there was no memory
abbrev pub pass_fault : View → Call → DeskFault → View → Type 0
pass_fault v call why w = FaultsPass v why w
