use Rattle.std.proofs.Common.{take}
use Rattle.std.specs.List.{AllByRecursion}
use Rattle.opid.specs.Kinds.{IsOperation}
use Rattle.shared_room.proofs.kept.are_operations.Given as goal

-- those that were looked at
abbrev pub invariant-loop-op : goal.invariant-loop-op
invariant-loop-op l = AllByRecursion IsOperation (take l.op-index l.ops)
