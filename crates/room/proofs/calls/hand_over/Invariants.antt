use Rattle.std.proofs.Common.{◌≡◌, ◌+◌, ◌≤◌, length, drop, vec_len, vec_capacity}
use Rattle.room_model.specs.Deliveries.{hand_over}
use Rattle.room.proofs.Handing.{with_before}
use Rattle.room.proofs.calls.hand_over.Given as goal

-- what was handed over so far with what is left is all of it
abbrev pub invariant-loop-op : goal.invariant-loop-op
invariant-loop-op l = record {
  site : l.replica.site ≡ l.initial.replica.site;
  handed : with_before l.outcomes.items (hand_over l.replica.site l.replica.log l.replica.held (drop l.op-index l.ops))
      ≡ hand_over l.initial.replica.site l.initial.replica.log l.initial.replica.held l.ops;
  reserved : length l.replica.held + length (drop l.op-index l.ops) ≤ l.replica.reserved;
  capacity : vec_len l.outcomes + length (drop l.op-index l.ops) ≤ vec_capacity l.outcomes;
}
