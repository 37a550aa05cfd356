-- The lemmas that the laws cite.
use Rattle.replica.proofs.Lawfully.{may_follow-accepted, accepted-may_follow, settle-settles, deliver-lawful}

pub ruleset laws = (may_follow-accepted, accepted-may_follow, settle-settles, deliver-lawful)
