use Rattle.std.proofs.Common.{◌∙◌}
use Rattle.ws_server.proofs.Sockets.{handed_over}
use Rattle.ws_server.proofs.socket.shake_hands.Goals as goal

pub returns : goal.returns
returns g c =
    let limited = c.set_config.ensures.limits in
    record {
      taken = handed_over c.in-Ok.socket c.set_config.new.self c.in-Ok.ensures.value c.set_config.ensures.same
          (limited.0 ∙ c.limits.ensures.message) (limited.1 ∙ c.limits.ensures.frame) (limited.2 ∙ c.limits.ensures.masked);
    }
