-- the pairs so far, and what the rest gives, is what the whole list gives
use Rattle.std.proofs.Common.{◌≡◌, take, drop}
use Rattle.operation_json.specs.Operations.{each, sited_pair}
use Rattle.operation_json.specs.Internal.Offers.{pairs_in}
use Rattle.operation_json.proofs.Loops.{with_front}
use Rattle.operation_json.proofs.read.operation.check_pair_sites.Given as goal

abbrev pub invariant-loop-value : goal.invariant-loop-value
invariant-loop-value l = with_front (pairs_in (take l.value-index l.pairs)) (each sited_pair (pairs_in (drop l.value-index l.pairs)))
    ≡ each sited_pair (pairs_in l.pairs)
