-- The lines that are appended are read behind those that were there.
use Rattle.journal.proofs.ReadLines.{no_log, whole_stands}
use Rattle.journal.proofs.WrittenLines.{grown, still_ended}
use Rattle.journal.proofs.laws.journals_grow.Goals as goal

pub returns-clause-empty : goal.returns-clause-empty
returns-clause-empty c = no_log

pub returns-clause-whole : goal.returns-clause-whole
returns-clause-whole c = whole_stands

pub returns-clause-grown : goal.returns-clause-grown
returns-clause-grown c = grown

pub returns-clause-ended : goal.returns-clause-ended
returns-clause-ended c = still_ended
