-- what was appended so far, and what the rest tells, is what all tell
use Rattle.std.proofs.Common.{◌≡◌, ◌++◌, drop}
use Rattle.operation_json.specs.Packing.{unfolded_all}
use Rattle.snapshot.proofs.gathered.integrate_gathered.Given as goal

abbrev pub invariant-loop-item : goal.invariant-loop-item
invariant-loop-item l = record {
  told : l.doc.log ++ unfolded_all (drop l.item-index l.items) ≡ unfolded_all l.items;
  unreserved : l.doc.reserved ≡ 0;
}
