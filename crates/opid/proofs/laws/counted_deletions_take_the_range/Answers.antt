use Rattle.opid.proofs.Counted.{asked_deletions_in-range}
use Rattle.opid.proofs.laws.counted_deletions_take_the_range.Goals as goal

pub returns-clause-range : goal.returns-clause-range
returns-clause-range c = asked_deletions_in-range
