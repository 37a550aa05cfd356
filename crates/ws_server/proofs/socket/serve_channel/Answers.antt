use Rattle.std.proofs.Common.{suc, Bool, Ok, subst}
use Rattle.ws_server.specs.Frames.{Side}
use Rattle.ws_server.specs.Serving.{ServesTurn}
use Rattle.ws_server.proofs.socket.serve_channel.Goals as goal

pub loop-preserved : goal.loop-preserved
loop-preserved g c =
    let many = c.loop.invariant.2 in
    let before : Side _ = record { conn = c.loop.conn; passes = c.loop.pass.passes.items; gate = c.loop.gate } in
    let after : Side _ = record { conn = c.serve_one.new.conn; passes = c.serve_one.new.pass.passes.items; gate = c.serve_one.new.gate } in
    let P : Bool → Type 0 = λ more.
    ServesTurn g.C.Channel.reads g.C.Channel.sends g.G.Witness.told_before g.G.Witness.told_after c.args.hall.now c.loop.channel before
    c.serve_one.new.channel after (Ok more) in (
      c.serve_one.ensures.pass,
      c.serve_one.ensures.conn,
      (suc many.0, (c.loop.channel, before, many.1, subst P c.in-Ok-true.field-0-test c.in-Ok-true.ensures.served)),
    )

pub returns-in-Ok-false-clause-served : goal.returns-in-Ok-false-clause-served
returns-in-Ok-false-clause-served g c =
    let many = c.loop.invariant.2 in
    let before : Side _ = record { conn = c.loop.conn; passes = c.loop.pass.passes.items; gate = c.loop.gate } in
    let after : Side _ = record { conn = c.serve_one.new.conn; passes = c.serve_one.new.pass.passes.items; gate = c.serve_one.new.gate } in
    let P : Bool → Type 0 = λ more.
    ServesTurn g.C.Channel.reads g.C.Channel.sends g.G.Witness.told_before g.G.Witness.told_after c.args.hall.now c.loop.channel before
    c.serve_one.new.channel after (Ok more) in
    (many.0, c.loop.channel, before, many.1, subst P c.in-Ok-false.field-0-test c.in-Ok-false.ensures.served)

pub returns-in-Err-clause-served : goal.returns-in-Err-clause-served
returns-in-Err-clause-served g c =
    let many = c.loop.invariant.2 in
    let before : Side _ = record { conn = c.loop.conn; passes = c.loop.pass.passes.items; gate = c.loop.gate } in
    (many.0, c.loop.channel, before, many.1, c.in-Err.ensures.served)
