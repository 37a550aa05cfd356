-- The lines so far tell the document's log, and were hashed.
use Rattle.std.proofs.Common.{◌≡◌, ◌-◌, length, take}
use Rattle.sha2.specs.Hashers.{Holds256}
use Rattle.journal.proofs.ReadLines.{Reads}
use Rattle.journal.proofs.reading.read_journal.Given as goal

abbrev pub invariant-each_line : goal.invariant-each_line
invariant-each_line l = record {
  reads : Reads l.bytes l.at l.lines l.doc.log;
  unreserved : l.doc.reserved ≡ 0;
  digest : Holds256 l.digest (take l.at l.bytes);
}

abbrev pub decreases-each_line : goal.decreases-each_line
decreases-each_line l = length l.bytes - l.at
