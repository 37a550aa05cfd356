-- An event is answered by the world's step, or by the refusal of memory.
use Rattle.std.proofs.Common.{inl, inr, refl, ap}
use Rattle.opid.specs.declared.refusal.Refusal.TheVariants.{Memory}
use Rattle.room_model.specs.declared.reply.Reply.TheVariants.{No}
use Rattle.wire_json.specs.Text.{text}
use Rattle.commands.specs.Worlds.{reply_text}
use Rattle.commands.proofs.scripts.take.Goals as goal

pub returns-in-Ok : goal.returns-in-Ok
returns-in-Ok c = (reply_text c.in-Ok.reply, inl (ap reply_text c.in-Ok.ensures.reply, c.in-Ok.ensures.next), c.reply_line.ensures)

pub returns-in-Err : goal.returns-in-Err
returns-in-Err c = (text (No Memory), inr (refl, c.in-Err.ensures.err), c.refusal.ensures.line)
