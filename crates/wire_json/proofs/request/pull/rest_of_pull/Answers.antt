use Rattle.wire_json.proofs.CallTokens.{pull_rest}
use Rattle.wire_json.proofs.request.pull.rest_of_pull.Goals as goal

pub returns : goal.returns
returns c =
    pull_rest c.args.reader.now c.next_field.new.reader c.next_field-2.new.reader c.next_field-3.new.reader c.in_ok-s.s c.in_ok-have.have
    c.in_ok-max.max c.in_ok-s.ensures c.in_ok-have.ensures c.in_ok-max.ensures (c.is_closed.ensures c.if-not-is_closed.false)
