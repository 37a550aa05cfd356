use Rattle.std.proofs.Common.{ℕ}
use Rattle.ws_server.specs.Halls.{IsHallPassOf, IsConnOf}
use Rattle.ws_server.specs.Serving.{ServesMany}
use Rattle.ws_server.proofs.socket.serve_channel.Given as goal

-- some messages were answered
abbrev pub invariant-loop : goal.invariant-loop
invariant-loop g l =
    IsHallPassOf l.hall l.pass × IsConnOf l.hall l.conn
    × ((n : ℕ) × ServesMany g.C.Channel.reads g.C.Channel.sends g.G.Witness.told_before g.G.Witness.told_after l.hall n
    l.initial.channel (record { conn = l.initial.conn; passes = l.initial.pass.passes.items; gate = l.initial.gate })
    l.channel (record { conn = l.conn; passes = l.pass.passes.items; gate = l.gate }))
