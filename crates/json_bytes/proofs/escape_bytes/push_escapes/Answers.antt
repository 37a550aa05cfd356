use Rattle.std.proofs.Common.{◌++◌}
use Rattle.std.specs.Prelude.{encode_utf8_all}
use Rattle.json.specs.Print.{escape}
use Rattle.json_bytes.proofs.Escapes.{escapes_more}
use Rattle.json_bytes.proofs.escape_bytes.push_escapes.Goals as goal

pub loop-ch-preserved : goal.loop-ch-preserved
loop-ch-preserved c =
    escapes_more c.args.chars.now c.loop-ch.ch-index c.ch-item.result c.loop-ch.out.items c.push_escape.new.out.items
    (c.args.out.now.items ++ escape (encode_utf8_all c.args.chars.now)) c.loop-ch-test.true c.ch-item.is c.loop-ch.invariant
    c.in_ok-push_escape.ensures
