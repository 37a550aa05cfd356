use Rattle.std.proofs.Common.{◌≡◌, ◌++◌, take}
use Rattle.snapshot.proofs.loading.append_operations.Given as goal

-- the operations so far are appended
abbrev pub invariant-loop-op : goal.invariant-loop-op
invariant-loop-op l = record {
  grown : l.doc.log ≡ l.fn.doc.log ++ take l.op-index l.ops;
  unreserved : l.fn.doc.reserved ≡ 0 → l.doc.reserved ≡ 0;
}
