-- At most 64 outcomes are told, so the sum fits.
use Rattle.std.proofs.Common.{◌<◌, ◌≤◌, length, arith}
use Rattle.std.proofs.lemmas.Grind.{common_steps}
use Rattle.room_model.specs.declared.call.Call.TheVariants as calls
use Rattle.room_model.specs.declared.reply.Reply.TheVariants as replies
use Rattle.room.proofs.Desks.{put_outcomes}
use Rattle.line_engine.proofs.carrying.hand.Goals as goal

pub overflow_cast-result : goal.overflow_cast-result
overflow_cast-result g c =
    let few : length c.in-Ok-Put.outcomes ≤ 64 =
    put_outcomes (g.B.Desk.sight c.args.b.now) (g.B.Desk.sight c.call.new.self) c.args.ops c.in-Ok-Put.outcomes
    (g.met.B.Desk.answers c.args.b.now (calls.Put c.args.ops) (replies.Put c.in-Ok-Put.outcomes) c.call.new.self c.requires.ready
    (rw c.in-Ok-Put.field-0-is at c.in-Ok-Put.ensures.answered)) in
    let le = c.carried_by.ensures.within in
    omega arith

pub overflow_add-result : goal.overflow_add-result
overflow_add-result g c =
    let few : length c.in-Ok-Put.outcomes ≤ 64 =
    put_outcomes (g.B.Desk.sight c.args.b.now) (g.B.Desk.sight c.call.new.self) c.args.ops c.in-Ok-Put.outcomes
    (g.met.B.Desk.answers c.args.b.now (calls.Put c.args.ops) (replies.Put c.in-Ok-Put.outcomes) c.call.new.self c.requires.ready
    (rw c.in-Ok-Put.field-0-is at c.in-Ok-Put.ensures.answered)) in
    let le = c.carried_by.ensures.within in
    let some : 0 < length c.args.ops = grind (arith, common_steps, c.is_empty.ensures, c.if-is_empty.false, c.as_slice.ensures) in
    let place : c.args.after ≤ 131072 = c.requires.place some in
    omega arith
