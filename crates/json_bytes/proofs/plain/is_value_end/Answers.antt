use Rattle.std.proofs.Common.{sym}
use Rattle.json_bytes.proofs.Plainly.{no_colon}
use Rattle.json_bytes.proofs.plain.is_value_end.Goals as goal

pub returns-in-44 : goal.returns-in-44
returns-in-44 c = λ _.
    no_colon c.args.bytes.now c.args.at c.behind_spaces-end.result c.peek.result c.behind_spaces-end.ensures.same
    (sym c.peek.ensures) c.in-44.is
