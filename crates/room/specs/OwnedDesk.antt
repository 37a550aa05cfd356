-- What a desk over an owned room does at a call; the rules are the server's own.
use Rattle.room_model.specs.declared.call.Call.{Call}
use Rattle.room_model.specs.declared.reply.Reply.{Reply}
use Rattle.room_model.specs.declared.desk_fault.DeskFault.{DeskFault}
use Rattle.room.specs.declared.owned.RoomDesk.{RoomDesk}
use Rattle.room_model.specs.History.{StepsRoom, FaultsRoom}

-- the call is a step of the desk's room
abbrev pub room_step : RoomDesk → Call → Reply → RoomDesk → Type 0
room_step old call reply new = StepsRoom old.room call reply new.room

-- the desk gives no reply, and its room stays
abbrev pub room_fault : RoomDesk → Call → DeskFault → RoomDesk → Type 0
room_fault old call why new = FaultsRoom old.room why new.room
