-- Each text is computed.
use Rattle.std.proofs.Common.{refl}
use Rattle.opid.specs.Clocks.{sites}
use Rattle.opid.proofs.worked.worked_texts.Goals as goal

pub returns-clause-later_first : goal.returns-clause-later_first
unfolding sites
returns-clause-later_first c = refl

pub returns-clause-beside_a_deleted : goal.returns-clause-beside_a_deleted
unfolding sites
returns-clause-beside_a_deleted c = refl

pub returns-clause-deleted_twice : goal.returns-clause-deleted_twice
unfolding sites
returns-clause-deleted_twice c = refl

pub returns-clause-overlapping_ranges : goal.returns-clause-overlapping_ranges
unfolding sites
returns-clause-overlapping_ranges c = refl

pub returns-clause-behind_what_was_sent : goal.returns-clause-behind_what_was_sent
unfolding sites
returns-clause-behind_what_was_sent c = refl

pub returns-clause-heads_here : goal.returns-clause-heads_here
unfolding sites
returns-clause-heads_here c = refl

pub returns-clause-heads_there : goal.returns-clause-heads_there
unfolding sites
returns-clause-heads_there c = refl

pub returns-clause-runs_here : goal.returns-clause-runs_here
unfolding sites
returns-clause-runs_here c = refl

pub returns-clause-runs_there : goal.returns-clause-runs_there
unfolding sites
returns-clause-runs_there c = refl

pub returns-clause-fork_here : goal.returns-clause-fork_here
unfolding sites
returns-clause-fork_here c = refl

pub returns-clause-fork_there : goal.returns-clause-fork_there
unfolding sites
returns-clause-fork_there c = refl

pub returns-clause-siblings : goal.returns-clause-siblings
unfolding sites
returns-clause-siblings c = refl

pub returns-clause-entry_that_fell : goal.returns-clause-entry_that_fell
unfolding sites
returns-clause-entry_that_fell c = refl
