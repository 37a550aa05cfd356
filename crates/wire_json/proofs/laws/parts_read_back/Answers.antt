-- The text is read as the reply's JSON value, which tells its part.
use Rattle.wire_json.proofs.Replies.{part_reads_back}
use Rattle.wire_json.proofs.laws.parts_read_back.Goals as goal

pub returns : goal.returns
returns c = part_reads_back
