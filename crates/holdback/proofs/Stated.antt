-- The lemmas that the laws cite.
use Rattle.holdback.proofs.Sameness.{same-equal, equal-same}
use Rattle.holdback.proofs.Firsts.{first_ready-Some, first_ready-None}

pub ruleset laws = (same-equal, equal-same, first_ready-Some, first_ready-None)
