-- The log so far is told by the objects so far.
use Rattle.operation_json.specs.Packing.{unfolded_all}
use Rattle.snapshot.specs.Internal.Coming.{TellsLog}
use Rattle.snapshot.proofs.spelled.rest_of_log.Given as goal

abbrev pub invariant-loop : goal.invariant-loop
invariant-loop l = TellsLog l.runs l.initial.reader (unfolded_all l.items.items) l.reader
