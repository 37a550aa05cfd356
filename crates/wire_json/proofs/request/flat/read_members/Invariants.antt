-- The members so far were told by the tokens that are taken.
use Rattle.wire_json.specs.Internal.Flat.{TellsMembers}
use Rattle.wire_json.proofs.request.flat.read_members.Given as goal

abbrev pub invariant-loop : goal.invariant-loop
invariant-loop l = TellsMembers l.initial.reader l.members.items l.reader
