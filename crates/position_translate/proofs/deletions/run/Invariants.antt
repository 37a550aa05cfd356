use Rattle.std.proofs.Common.{◌≡◌, ◌+◌, ◌≤◌, ◌++◌, length, sum}
use Rattle.opid.specs.Reading.{visible_in_at}
use Rattle.opid.specs.Asked.{deletion_run}
use Rattle.position_translate.proofs.Asking.{known, once, stamps}
use Rattle.position_translate.proofs.deletions.run.Given as goal

-- what was made, with the run of the rest, is the whole run
abbrev pub invariant-loop-place : goal.invariant-loop-place
invariant-loop-place l = record {
  whole : l.ops.items
      ++ deletion_run l.site (known l.clock l.ops.items) (stamps l.units (visible_in_at l.units l.doc.log l.version) l.place l.end)
      ≡ deletion_run l.site l.clock (stamps l.units (visible_in_at l.units l.doc.log l.version) l.first l.end);
  few : sum (known l.clock l.ops.items) + length (once l.units (visible_in_at l.units l.doc.log l.version) l.place l.end) ≤ 131072;
}
