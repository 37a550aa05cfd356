use Rattle.wire_json.proofs.CallTokens.{whole_read}
use Rattle.wire_json.proofs.request.reader.read_object.Goals as goal

pub returns-clause-told : goal.returns-clause-told
returns-clause-told c =
    whole_read c.args.reader.now c.take_begin_object.new.self c.take_key.new.self c.read_kind.result
    (c.take_begin_object.ensures.yes c.if-not-take_begin_object.false) (c.take_key.ensures.yes c.if-not-take_key.false)
    c.read_kind.ensures.told
