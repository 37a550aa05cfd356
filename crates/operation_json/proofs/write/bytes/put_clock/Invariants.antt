-- What is put are the pairs of the sites so far, from the last on, each with a comma before it.
use Rattle.std.proofs.Common.{◌≡◌, ◌≤◌, ◌<◌, ◌+◌, ◌-◌, ◌*◌, ◌∷◌, drop}
use Rattle.operation_json.proofs.ClockBytes.{behind_pairs}
use Rattle.operation_json.proofs.write.bytes.put_clock.Given as goal

abbrev pub invariant-loop-done : goal.invariant-loop-done
invariant-loop-done l = record {
  text : drop l.here l.bytes ≡ behind_pairs l.clock (32 - l.done) l.done (93 ∷ drop l.fn.at l.fn.bytes);
  place : l.fn.at ≤ l.here + 1 + 24 * l.done;
  before : l.here < l.fn.at;
}
