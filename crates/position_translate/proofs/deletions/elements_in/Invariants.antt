use Rattle.std.proofs.Common.{◌≡◌, ◌+◌, ◌≤◌, length}
use Rattle.opid.specs.Reading.{visible_in_at}
use Rattle.position_translate.proofs.Asking.{once}
use Rattle.position_translate.proofs.deletions.elements_in.Given as goal

-- what was counted, with the rest, is all
abbrev pub invariant-loop-place : goal.invariant-loop-place
invariant-loop-place l = record {
  all : l.elements + length (once l.units (visible_in_at l.units l.doc.log l.version) l.place l.end)
      ≡ length (once l.units (visible_in_at l.units l.doc.log l.version) l.first l.end);
  few : l.elements ≤ l.place;
}
