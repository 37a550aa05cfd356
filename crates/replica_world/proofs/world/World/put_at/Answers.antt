use Rattle.std.proofs.Common.{◌≡◌, [], ◌∷◌, true, false, sym, subst, get_or, rules, ◌∙◌}
use Rattle.room_model.specs.declared.call.Call.TheVariants as calls
use Rattle.room_model.specs.Machine.{may_record}
use Rattle.room_model.specs.World.{call_of, room_of, NeedsMemory}
use Rattle.replica_world.proofs.Placed.{full_world, needs_memory, on_err}
use Rattle.replica_world.proofs.world.World.put_at.Goals as goal

pub returns-then-not-may_record-clause-next : goal.returns-then-not-may_record-clause-next
returns-then-not-may_record-clause-next c =
    full_world c.args.site c.args.self.now c.args.place c.index.result.now (calls.Put (c.args.op ∷ [])) c.requires.place
    (subst (λ w. c.index.result.now ≡ get_or w c.args.place c.index.result.now) c.self.view_is c.index.ensures)
    (sym c.may_record.ensures ∙ c.if-not-may_record.true)

pub returns-in_err-call-clause-memory : goal.returns-in_err-call-clause-memory
returns-in_err-call-clause-memory c =
    on_err c.from_residual.result
    (NeedsMemory (call_of c.args.site (room_of c.args.site c.args.self.now) (calls.Put (c.args.op ∷ [])) c.args.self.now).reply)
    (needs_memory c.args.site c.args.self.now c.args.place c.index.result.now (calls.Put (c.args.op ∷ [])) c.requires.place
    (subst (λ w. c.index.result.now ≡ get_or w c.args.place c.index.result.now) c.self.view_is c.index.ensures)
    (sym c.may_record.ensures ∙ c.if-not-may_record.false))
