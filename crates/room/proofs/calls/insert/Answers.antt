use Rattle.std.proofs.Common.{Bool, length, refl, subst, sym, ◌∙◌}
use Rattle.opid.specs.Asked.{asked_insertions_in}
use Rattle.opid.specs.Places.{insertion_refusal_in}
use Rattle.opid.specs.Sessions.{session_with}
use Rattle.opid.specs.Sessions.{submission_of}
use Rattle.room_model.specs.declared.call.Call.TheVariants.{Ins}
use Rattle.room_model.specs.Machine.{counts_units}
use Rattle.room.specs.Internal.Parts.{Submits}
use Rattle.room.proofs.Replied.{at_once, carried}
use Rattle.room.proofs.calls.insert.Goals as goal

pub returns-in-Some-clause-does : goal.returns-in-Some-clause-does
returns-in-Some-clause-does c =
    at_once c.args.replica.now c.args.outbox.now (Ins c.args.s c.args.n c.args.v c.args.k c.args.x.now)
    (submission_of (session_with c.args.s c.args.outbox.now.sessions) c.args.n c.args.v)
    (insertion_refusal_in (counts_units c.args.s c.args.outbox.now) c.args.replica.now.log c.args.v c.args.k c.args.x.now) c.in-Some.reply
    (λ _. refl) (sym c.in-Some.is ∙ c.reply_at_once.ensures.reply)

pub returns-clause-does : goal.returns-clause-does
returns-clause-does c =
    let units : Bool = counts_units c.args.s c.args.outbox.now in
    carried c.args.replica.now c.args.outbox.now (Ins c.args.s c.args.n c.args.v c.args.k c.args.x.now)
    (submission_of (session_with c.args.s c.args.outbox.now.sessions) c.args.n c.args.v)
    (insertion_refusal_in units c.args.replica.now.log c.args.v c.args.k c.args.x.now) c.args.s
    (asked_insertions_in units c.args.replica.now.log c.args.replica.now.site c.args.v c.args.k c.args.x.now)
    (length c.args.x.now) c.submit_insertion.result c.submit_insertion.new.replica c.accept.result c.accept.new.outbox
    (λ _. refl) (λ _. refl) (λ _. refl) (sym c.in_default.is ∙ c.reply_at_once.ensures.reply)
    (subst (λ u. Submits (insertion_refusal_in u c.args.replica.now.log c.args.v c.args.k c.args.x.now) c.submit_insertion.result
    c.args.replica.now (asked_insertions_in u c.args.replica.now.log c.args.replica.now.site c.args.v c.args.k c.args.x.now)
    (length c.args.x.now) c.submit_insertion.new.replica) c.counts_units-units.ensures c.submit_insertion.ensures) c.accept.ensures
