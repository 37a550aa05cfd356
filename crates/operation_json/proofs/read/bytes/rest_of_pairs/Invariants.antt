-- The list begins with the pairs so far.
use Rattle.std.proofs.Common.{◌≡◌, length, take}
use Rattle.operation_json.specs.Internal.MemberTokens.{TellsPairs}
use Rattle.operation_json.proofs.read.bytes.rest_of_pairs.Given as goal

abbrev pub invariant-loop-place : goal.invariant-loop-place
invariant-loop-place l = (length l.pairs ≡ 32) × TellsPairs l.initial.reader (take l.place l.pairs) l.reader
