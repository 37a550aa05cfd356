-- What may lack memory of the parts may lack it of the machine.
use Rattle.std.proofs.Common.{Result, Ok, Err, subst}
use Rattle.std.specs.Prelude.{OnErr}
use Rattle.room_model.specs.Machine.{State}
use Rattle.room.specs.Internal.Parts.{MayLackMemory}
use Rattle.room.proofs.machine.Machine.answer.Goals as goal

on_err : {A E : Type 0} (result : Result A E) (P : Type 0) → P → OnErr result P
on_err (Ok value) P p = tt
on_err (Err why) P p = p

pub returns-in_err-reply-clause-memory : goal.returns-in_err-reply-clause-memory
returns-in_err-reply-clause-memory c =
    on_err c.from_residual.result (MayLackMemory c.args.self.now c.args.call.now)
    (subst (λ (S : State). MayLackMemory S c.args.call.now) c.self.view_is (c.in_err-reply.ensures.memory c.self.inside.count))
