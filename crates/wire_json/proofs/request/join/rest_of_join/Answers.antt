use Rattle.wire_json.proofs.CallTokens.{units_rest}
use Rattle.wire_json.proofs.request.join.rest_of_join.Goals as goal

pub returns : goal.returns
returns c =
    units_rest c.args.reader.now c.take_key.new.self c.next_number.new.self c.in_ok-width.width
    (c.take_key.ensures.yes c.if-not-take_key.false) (c.in_ok-width.ensures.0) c.if-width-ne16.false
    (c.is_closed-else-width-ne16.ensures c.if-not-is_closed.false)
