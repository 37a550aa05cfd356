use Rattle.std.proofs.Common.{arith, refl, get_or}
use Rattle.std.proofs.lemmas.Bool.{ne_eqb}
use Rattle.json_bytes.proofs.PlainText.{by_letter, by_number}
use Rattle.json_bytes.proofs.plain_text.escape_at.Goals as goal

pub returns-then-bytes-at-eq117 : goal.returns-then-bytes-at-eq117
returns-then-bytes-at-eq117 c =
    by_number c.args.bytes.now c.args.at c.numbered_at.result (omega arith) c.if-bytes-at-eq117.true c.numbered_at.ensures

pub returns : goal.returns
returns c =
    by_letter c.args.bytes.now c.args.at (get_or c.args.bytes.now c.args.at 0) c.in_ok-ch.ch (omega arith) refl c.in_ok-ch.ensures.told
    (ne_eqb (get_or c.args.bytes.now c.args.at 0) 117 c.if-bytes-at-eq117.false) c.in_ok-ch.ensures.ascii c.in_ok-ch.ensures.small
