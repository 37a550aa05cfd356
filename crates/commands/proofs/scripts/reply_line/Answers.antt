-- The line of a room's reply, or what memory was wanted for.
use Rattle.line_engine.proofs.Telling.{made_or_wanted}
use Rattle.commands.proofs.scripts.reply_line.Goals as goal

pub returns-in-Room : goal.returns-in-Room
returns-in-Room c = rw c.in-Room.is (made_or_wanted c.in-Room.reply c.new.result c.new.ensures.line c.new.ensures.refusal)
