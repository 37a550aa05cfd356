use Rattle.json_bytes.proofs.Plainly.{three_more}
use Rattle.json_bytes.proofs.plain.is_null_behind.Goals as goal

pub returns-clause-told : goal.returns-clause-told
returns-clause-told c = λ _.
    three_more c.args.bytes.now c.args.at c.if-bytes-at-ne117.false c.if-bytes-at-ne108.false c.if-bytes-at-ne108-2.false
