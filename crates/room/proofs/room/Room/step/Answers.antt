use Rattle.std.proofs.Common.{ap, ◌∙◌, ◌≡◌, ◌+◌, ◌^◌, ◌≤◌, length, Result, Ok, Err, subst, sym}
use Rattle.std.specs.Prelude.{OnOk, OnErr}
use Rattle.std.specs.declared.alloc.AllocError.{AllocError}
use Rattle.room_model.specs.declared.call.Call.{Call}
use Rattle.room_model.specs.declared.reply.Reply.{Reply}
use Rattle.room_model.specs.History.{Account, mark, called}
use Rattle.room.proofs.Histories.{mark-within}
use Rattle.room.proofs.room.Room.step.Goals as goal

-- whatever was answered, the mark is within its range again
within : (old new : Account) (t : _) (c : Call) (r : Result Reply AllocError) → t ≡ mark old.history
    → mark old.history ≤ 2 ^ 61 + length old.history
    → OnOk r (new ≡ called old t c) → OnErr r (new ≡ old) → mark new.history ≤ 2 ^ 61 + length new.history
within old new t c (Ok reply) e b f g =
    subst (λ (a : Account). mark a.history ≤ 2 ^ 61 + length a.history) (sym (subst (λ n. new ≡ called old n c) e f)) (mark-within old c b)
within old new t c (Err why) e b f g = subst (λ (a : Account). mark a.history ≤ 2 ^ 61 + length a.history) (sym g) b

pub returns-clause-in_range : goal.returns-clause-in_range
returns-clause-in_range c =
    within c.args.self.now c.call.new.self c.self.inside.mark c.args.call c.call.result
    (c.self.invariant.marked ∙ ap (λ (a : Account). mark a.history) c.self.view_is) c.requires c.call.ensures.called c.call.ensures.err
