-- The texts of replies are told apart by the JSON tree that each reads as.
use Rattle.wire_json.proofs.Texts.{different}
use Rattle.wire_json.proofs.laws.different_replies.Goals as goal

pub returns : goal.returns
returns c = different
