use Rattle.std.proofs.Common.{Bool, refl, subst, sym, ◌∙◌}
use Rattle.opid.specs.Asked.{asked_deletions_in}
use Rattle.opid.specs.Places.{deletion_refusal_in, element_count}
use Rattle.opid.specs.Sessions.{session_with}
use Rattle.opid.specs.Sessions.{submission_of}
use Rattle.room_model.specs.declared.call.Call.TheVariants.{Del}
use Rattle.room_model.specs.Machine.{counts_units}
use Rattle.room.specs.Internal.Parts.{Submits}
use Rattle.room.proofs.Replied.{at_once, carried}
use Rattle.room.proofs.calls.delete.Goals as goal

pub returns-in-Some-clause-does : goal.returns-in-Some-clause-does
returns-in-Some-clause-does c =
    at_once c.args.replica.now c.args.outbox.now (Del c.args.s c.args.n c.args.v c.args.k c.args.c)
    (submission_of (session_with c.args.s c.args.outbox.now.sessions) c.args.n c.args.v)
    (deletion_refusal_in (counts_units c.args.s c.args.outbox.now) c.args.replica.now.log c.args.v c.args.k c.args.c) c.in-Some.reply
    (λ _. refl) (sym c.in-Some.is ∙ c.reply_at_once.ensures.reply)

pub returns-clause-does : goal.returns-clause-does
returns-clause-does c =
    let units : Bool = counts_units c.args.s c.args.outbox.now in
    carried c.args.replica.now c.args.outbox.now (Del c.args.s c.args.n c.args.v c.args.k c.args.c)
    (submission_of (session_with c.args.s c.args.outbox.now.sessions) c.args.n c.args.v)
    (deletion_refusal_in units c.args.replica.now.log c.args.v c.args.k c.args.c) c.args.s
    (asked_deletions_in units c.args.replica.now.log c.args.replica.now.site c.args.v c.args.k c.args.c)
    (element_count units c.args.replica.now.log c.args.v c.args.k c.args.c)
    c.submit_deletion.result c.submit_deletion.new.replica c.accept.result c.accept.new.outbox
    (λ _. refl) (λ _. refl) (λ _. refl) (sym c.in_default.is ∙ c.reply_at_once.ensures.reply)
    (subst (λ u. Submits (deletion_refusal_in u c.args.replica.now.log c.args.v c.args.k c.args.c) c.submit_deletion.result
    c.args.replica.now (asked_deletions_in u c.args.replica.now.log c.args.replica.now.site c.args.v c.args.k c.args.c)
    (element_count u c.args.replica.now.log c.args.v c.args.k c.args.c) c.submit_deletion.new.replica)
    c.counts_units-units.ensures c.submit_deletion.ensures) c.accept.ensures
