use Rattle.std.proofs.Common.{◌≡◌, ◌+◌, ◌++◌, drop}
use Rattle.replica.proofs.submissions.append_each.Given as goal

-- the log with the operations that are left is the log with all of them
abbrev pub invariant-loop-op : goal.invariant-loop-op
invariant-loop-op l = record {
  log : l.log.log ++ drop l.op-index l.ops ≡ l.initial.log.log ++ l.ops;
  reserved : l.log.reserved + l.op-index ≡ l.initial.log.reserved;
}
