-- The text of an `ops` reply is read as its JSON value, whose items are read as what was packed.
use Rattle.wire_json.proofs.Replies.{tells, hands_over}
use Rattle.wire_json.proofs.laws.packed_operations_read_back.Goals as goal

pub returns-clause-told : goal.returns-clause-told
returns-clause-told c = tells

pub returns-clause-put : goal.returns-clause-put
returns-clause-put c = hands_over
