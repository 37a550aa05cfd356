use Rattle.wire_json.proofs.CallTokens.{asked}
use Rattle.wire_json.proofs.request.reader.read_plain.Goals as goal

pub returns-clause-told : goal.returns-clause-told
returns-clause-told c =
    asked c.args.text.now c.new-reader.result c.read_object.result c.utf8.text c.new-reader.ensures c.read_object.ensures.told
