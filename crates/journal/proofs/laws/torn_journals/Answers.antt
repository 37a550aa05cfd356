use Rattle.journal.proofs.TornLines.{fronts, behind, adds}
use Rattle.journal.proofs.laws.torn_journals.Goals as goal

pub returns-clause-fronts : goal.returns-clause-fronts
returns-clause-fronts c = fronts

pub returns-clause-behind : goal.returns-clause-behind
returns-clause-behind c = behind

pub returns-clause-adds : goal.returns-clause-adds
returns-clause-adds c = adds
