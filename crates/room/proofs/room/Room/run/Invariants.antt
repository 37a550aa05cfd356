use Rattle.std.proofs.Common.{◌≡◌, ◌+◌, ◌^◌, ◌≤◌, ◌++◌, length, take}
use Rattle.room_model.specs.History.{mark, answers, ran, IsConsistent}
use Rattle.room.proofs.room.Room.run.Given as goal

-- the calls so far are answered
abbrev pub invariant-loop-call : goal.invariant-loop-call
invariant-loop-call l = record {
  within : mark l.self.history ≤ 2 ^ 61 + length l.self.history;
  consistent : IsConsistent l.self;
  answered : l.replies.items ≡ l.initial.replies.items ++ answers l.initial.self.state (take l.call-index l.calls);
  room : l.self ≡ ran l.initial.self (take l.call-index l.calls);
}
