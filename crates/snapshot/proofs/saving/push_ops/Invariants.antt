use Rattle.std.proofs.Common.{◌≡◌, ◌++◌, take, drop, string_bytes}
use Rattle.operation_json.specs.Text.{packed_text}
use Rattle.snapshot.specs.Snapshot.{AreInRange}
use Rattle.snapshot.proofs.Joined.{rest_text}
use Rattle.snapshot.proofs.saving.push_ops.Given as goal

-- what is written, and what the item becomes with the rest, is all; the walk has those that are left
abbrev pub invariant-packed : goal.invariant-packed
invariant-packed l = record {
  text : string_bytes l.text ++ rest_text l.item (drop l._place l.fn.doc.log) ≡ string_bytes l.fn.text ++ packed_text l.fn.doc.log;
  range : AreInRange (take l._place l.fn.doc.log);
  walk : l.rest.left ≡ drop l._place l.fn.doc.log;
}
