use Rattle.wire_json.proofs.CallTokens.{read_rest}
use Rattle.wire_json.proofs.request.read.rest_of_read.Goals as goal

pub returns : goal.returns
returns c = read_rest c.args.reader.now (c.is_closed.ensures c.if-not-is_closed.false)
