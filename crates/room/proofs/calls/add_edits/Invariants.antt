use Rattle.std.proofs.Common.{◌≡◌, ◌+◌, ◌-◌, ◌≤◌, ◌++◌, vec_len, vec_capacity}
use Rattle.room_model.specs.Machine.{edits_between_in}
use Rattle.room.proofs.calls.add_edits.Given as goal

-- the edits so far with those that are left are all of them
abbrev pub invariant-loop-version : goal.invariant-loop-version
invariant-loop-version l = record {
  edits : l.es.items ++ edits_between_in l.units l.doc.log l.version l.to ≡ edits_between_in l.units l.doc.log l.from l.to;
  reserved : vec_len l.es + (l.to - l.version) ≤ vec_capacity l.es;
}
