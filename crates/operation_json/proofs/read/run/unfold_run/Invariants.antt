-- what was added, and what follows the last, is the whole run
use Rattle.std.proofs.Common.{◌≡◌, ◌+◌, ◌≤◌, ◌++◌, ◌∷◌, length, sum, drop}
use Rattle.std.specs.Str.{chars}
use Rattle.operation_json.specs.Packing.{typed_behind}
use Rattle.operation_json.proofs.read.run.unfold_run.Given as goal

abbrev pub invariant-loop-ch : goal.invariant-loop-ch
invariant-loop-ch l = record {
  whole : l.ops.items ++ typed_behind l.last (drop (length l.yielded) (chars l.more))
      ≡ l.fn.ops.items ++ (l.fn.first ∷ typed_behind l.fn.first (chars l.more));
  kept : length l.ops.items ≤ 65;
  few : sum l.last.clock + length (chars l.more) ≤ 131072 + length l.yielded;
}
