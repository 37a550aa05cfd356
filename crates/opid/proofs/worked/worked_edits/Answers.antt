-- Each text is computed.
use Rattle.std.proofs.Common.{refl}
use Rattle.opid.specs.Clocks.{sites}
use Rattle.opid.proofs.worked.worked_edits.Goals as goal

pub returns-clause-deleted_twice : goal.returns-clause-deleted_twice
unfolding sites
returns-clause-deleted_twice c = refl

pub returns-clause-deleted_twice_played : goal.returns-clause-deleted_twice_played
unfolding sites
returns-clause-deleted_twice_played c = refl

pub returns-clause-overlapping_ranges : goal.returns-clause-overlapping_ranges
unfolding sites
returns-clause-overlapping_ranges c = refl

pub returns-clause-overlapping_ranges_played : goal.returns-clause-overlapping_ranges_played
unfolding sites
returns-clause-overlapping_ranges_played c = refl

pub returns-clause-behind_what_was_sent : goal.returns-clause-behind_what_was_sent
unfolding sites
returns-clause-behind_what_was_sent c = refl

pub returns-clause-heads_here : goal.returns-clause-heads_here
unfolding sites
returns-clause-heads_here c = refl

pub returns-clause-heads_there : goal.returns-clause-heads_there
unfolding sites
returns-clause-heads_there c = refl
