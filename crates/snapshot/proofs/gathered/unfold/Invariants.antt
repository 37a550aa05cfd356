-- what was put in, and what follows the last, is the whole item
use Rattle.std.proofs.Common.{◌≡◌, ◌+◌, ◌≤◌, ◌++◌, length, sum, drop}
use Rattle.operation_json.specs.Packing.{typed_behind, unfolded}
use Rattle.snapshot.proofs.gathered.unfold.Given as goal

abbrev pub invariant-loop-ch : goal.invariant-loop-ch
invariant-loop-ch l = record {
  whole : l.ops.items ++ typed_behind l.last (drop (length l.yielded) l.item.more) ≡ unfolded l.item;
  few : sum l.last.clock + length l.item.more ≤ 131072 + length l.yielded;
}
