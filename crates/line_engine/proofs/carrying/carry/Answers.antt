-- Where operations are told, their place is within the log.
use Rattle.room_model.specs.declared.call.Call.TheVariants as calls
use Rattle.room_model.specs.declared.reply.Reply.TheVariants as replies
use Rattle.room.proofs.Desks.{told_place}
use Rattle.line_engine.proofs.carrying.carry.Goals as goal

pub hand-requires-clause-place : goal.hand-requires-clause-place
hand-requires-clause-place g c _ =
    told_place (g.A.Desk.sight c.args.a.now) (g.A.Desk.sight c.call.new.self) c.args.after c.in-Ok-Ops.field-0-0 c.in-Ok-Ops.ops
    (g.met.A.Desk.answers c.args.a.now (calls.Ops c.args.after 64)
    (replies.Ops c.in-Ok-Ops.field-0-0 c.in-Ok-Ops.ops) c.call.new.self c.requires.a_ready
    (rw c.in-Ok-Ops.field-0-is at c.in-Ok-Ops.ensures.answered))
    (g.met.A.Desk.sees c.call.new.self c.in-Ok-Ops.ensures.ready)
