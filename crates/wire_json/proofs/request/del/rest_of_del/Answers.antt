use Rattle.wire_json.proofs.CallTokens.{del_rest}
use Rattle.wire_json.proofs.request.del.rest_of_del.Goals as goal

pub returns : goal.returns
returns c =
    del_rest c.args.reader.now c.next_place.new.reader c.next_field.new.reader c.in_ok-s.s c.in_ok-s.n c.in_ok-s.v c.in_ok-s.k c.in_ok-c.c
    c.in_ok-s.ensures c.in_ok-c.ensures (c.is_closed.ensures c.if-not-is_closed.false)
