use Rattle.std.proofs.Common.{inr}
use Rattle.ws_server.proofs.socket.serve_socket.Goals as goal

pub returns-clause-served : goal.returns-clause-served
returns-clause-served g c =
    inr (
      c.in-Ok.socket,
      c.serve_channel.new.channel,
      c.new-conn.result,
      c.serve_channel.new.conn,
      c.in-Ok.ensures.taken,
      c.new-conn.ensures,
      c.serve_channel.ensures.served,
    )
