-- The count of the characters is the length of the list.
use Rattle.std.proofs.Common.{rules}
use Rattle.std.proofs.lemmas.Str.{chars_from_encodes}
use Rattle.opid.proofs.limits.count_characters.Goals as goal

pub returns : goal.returns
returns c = search (rules, chars_from_encodes)
