use Rattle.wire_json.proofs.CallTokens.{part_rest}
use Rattle.wire_json.proofs.request.ops.rest_of_ops.Goals as goal

pub returns : goal.returns
returns c =
    part_rest c.args.reader.now c.next_field.new.reader c.next_field-2.new.reader c.in_ok-after.after c.in_ok-max.max c.in_ok-after.ensures
    c.in_ok-max.ensures (c.is_closed.ensures c.if-not-is_closed.false)
