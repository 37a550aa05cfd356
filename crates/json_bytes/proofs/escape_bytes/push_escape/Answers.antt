use Rattle.std.proofs.Common.{arith}
use Rattle.std.proofs.lemmas.Grind.{common_steps}
use Rattle.json_bytes.proofs.Escapes.{ascii_escape}
use Rattle.json_bytes.proofs.escape_bytes.push_escape.Goals as goal

pub returns-then-ch-ne92 : goal.returns-then-ch-ne92
returns-then-ch-ne92 c =
    rw (ascii_escape c.args.ch c.if-ch-lt128.true c.if-ch-ge32.true c.if-ch-ne34.true c.if-ch-ne92.true) (grind (arith, common_steps))
