-- The operations so far are those of the objects so far.
use Rattle.wire_json.specs.Internal.CallTokens.{TellsOps}
use Rattle.wire_json.proofs.request.put.next_ops.Given as goal

abbrev pub invariant-loop : goal.invariant-loop
invariant-loop l = TellsOps l.initial.reader l.ops.items l.reader
