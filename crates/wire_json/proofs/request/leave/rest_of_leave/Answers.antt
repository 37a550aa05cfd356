use Rattle.wire_json.proofs.CallTokens.{leave_rest}
use Rattle.wire_json.proofs.request.leave.rest_of_leave.Goals as goal

pub returns : goal.returns
returns c =
    leave_rest c.args.reader.now c.next_field.new.reader c.in_ok-s.s c.in_ok-s.ensures (c.is_closed.ensures c.if-not-is_closed.false)
