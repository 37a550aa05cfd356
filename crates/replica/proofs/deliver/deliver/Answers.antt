-- What each check leads to.
use Rattle.std.proofs.Common.{◌≡◌, ◌∙◌, ◌<◌, Ok, Err, false, true, ap, sym, arith, inl, inr, length}
use Rattle.std.proofs.lemmas.Result.{err_from_is_err_and}
use Rattle.opid.specs.Held.{HeldOperations, look_for, after_arrival}
use Rattle.opid.specs.declared.delivery.Delivery.TheVariants.{Kept, Again}
use Rattle.opid.specs.Delivered.{Delivered, claims_site, settled}
use Rattle.replica.proofs.Checks.{deliver-own, deliver-in_log, deliver-other_in_log, deliver-held, deliver-other_held, deliver-kept}
use Rattle.replica.proofs.Checks.{deliver-kept_again, deliver-not_kept, deliver-refused, deliver-took, kept-few, look_for-same}
use Rattle.replica.proofs.Clocks.{clock_of-same, is_ready-same}
use Rattle.replica.proofs.deliver.deliver.Goals as goal

pub returns-in_err-look-clause-cause : goal.returns-in_err-look-clause-cause
returns-in_err-look-clause-cause c =
    let p = err_from_is_err_and c.from_residual.result c.from_residual.ensures.1 in
    let own : claims_site c.args.site c.args.log.now.log c.args.op.now ≡ false = sym c.if-claims_site.ensures.value in
    let other : look_for c.args.op.now c.args.log.now.log ≡ Err c.in_err-look.field-0.0 = sym c.in_err-look.ensures in
    rw (p.1, p.2) (inl (ap (λ (d : Delivered). d.outcome) (deliver-other_in_log c.args.site c.args.log.now.log c.args.held.now.ops
    c.args.op.now c.in_err-look.field-0.0 own other)))

pub returns-in_err-offer-clause-cause : goal.returns-in_err-offer-clause-cause
returns-in_err-offer-clause-cause c =
    let p = err_from_is_err_and c.from_residual-in_err-offer.result c.from_residual-in_err-offer.ensures.1 in
    let log = c.args.log.now.log in
    let held = c.args.held.now.ops in
    let e = c.in_err-offer.field-0.0 in
    let own : claims_site c.args.site log c.args.op.now ≡ false = sym c.if-claims_site.ensures.value in
    let new = look_for-same log c.args.op.now _ false c.in_ok-look.ensures c.if-branch.false in
    let clock = clock_of-same c.known.result.now _ c.args.log.now c.known.ensures c.doc.ensures.value in
    let waits = is_ready-same c.known.result.now log c.args.op.now false clock c.if-not-ready.ensures in
    rw (p.1, p.2) (elim (c.in_err-offer.ensures.cause) [
      | inl q ↦ inl (ap (λ (d : Delivered). d.outcome) (deliver-not_kept c.args.site log held c.args.op.now e own new waits q))
      | inr q ↦ (let few : length held < 1024 = kept-few held c.args.op.now q.0 in inr (q.1, omega (arith, few, q.2, c.requires.in_held)))
    ])

pub returns-in_err-look-2-clause-cause : goal.returns-in_err-look-2-clause-cause
returns-in_err-look-2-clause-cause c =
    let p = err_from_is_err_and c.from_residual-in_err-look-2.result c.from_residual-in_err-look-2.ensures.1 in
    let log = c.args.log.now.log in
    let own : claims_site c.args.site log c.args.op.now ≡ false = sym c.if-claims_site.ensures.value in
    let new = look_for-same log c.args.op.now _ false c.in_ok-look.ensures c.if-branch.false in
    let other : look_for c.args.op.now c.args.held.now.ops ≡ Err c.in_err-look-2.field-0.0 = sym c.in_err-look-2.ensures in
    rw (p.1, p.2) (inl (ap (λ (d : Delivered). d.outcome) (deliver-other_held c.args.site log c.args.held.now.ops c.args.op.now
    c.in_err-look-2.field-0.0 own new other)))

pub returns-in_err-tally-clause-cause : goal.returns-in_err-tally-clause-cause
returns-in_err-tally-clause-cause c =
    let p = err_from_is_err_and c.from_residual-in_err-tally.result c.from_residual-in_err-tally.ensures.1 in
    let log = c.args.log.now.log in
    let held = c.args.held.now.ops in
    let e = c.in_err-tally.field-0.0 in
    let own : claims_site c.args.site log c.args.op.now ≡ false = sym c.if-claims_site.ensures.value in
    let new = look_for-same log c.args.op.now _ false c.in_ok-look.ensures c.if-branch.false in
    let not_held = look_for-same held c.args.op.now _ false c.in_ok-look-2.ensures c.if-branch-2.false in
    let clock = clock_of-same c.known.result.now _ c.args.log.now c.known.ensures c.doc.ensures.value in
    let ready = is_ready-same c.known.result.now log c.args.op.now true clock c.if-not-ready.ensures in
    rw (p.1, p.2) (elim (c.in_err-tally.ensures.cause) [
      | inl q ↦ inl (ap (λ (d : Delivered). d.outcome) (deliver-refused c.args.site log held c.args.op.now e own new not_held ready q))
      | inr q ↦ inr q
    ])

pub returns-then-claims_site-clause-cause : goal.returns-then-claims_site-clause-cause
returns-then-claims_site-clause-cause c =
    inl (ap (λ (d : Delivered). d.outcome) (deliver-own c.args.site c.args.log.now.log c.args.held.now.ops c.args.op.now
    (sym c.if-claims_site.ensures.value)))

pub returns-then-branch-clause-delivered : goal.returns-then-branch-clause-delivered
returns-then-branch-clause-delivered c =
    deliver-in_log c.args.site c.args.log.now.log c.args.held.now.ops c.args.op.now (sym c.if-claims_site.ensures.value)
    (look_for-same c.args.log.now.log c.args.op.now _ true c.in_ok-look.ensures c.if-branch.true)

pub returns-in-Kept-clause-delivered : goal.returns-in-Kept-clause-delivered
returns-in-Kept-clause-delivered c =
    let log = c.args.log.now.log in
    let held = c.args.held.now.ops in
    let new = look_for-same log c.args.op.now _ false c.in_ok-look.ensures c.if-branch.false in
    let clock = clock_of-same c.known.result.now _ c.args.log.now c.known.ensures c.doc.ensures.value in
    let waits = is_ready-same c.known.result.now log c.args.op.now false clock c.if-not-ready.ensures in
    let with_held : HeldOperations → Delivered = λ h. record { outcome = Ok Kept; log = log; held = h.ops } in
    deliver-kept c.args.site log held c.args.op.now (sym c.if-claims_site.ensures.value) new waits
    (c.in_ok-offer.ensures.value ∙ ap Ok c.in-Kept.is)
    ∙ sym (ap with_held (c.in_ok-offer.ensures.held
    ∙ ap (λ a. let h : HeldOperations = record c.args.held.now { ops = after_arrival a c.args.op.now held } in h) c.in-Kept.is))

pub returns-in-Again-clause-delivered : goal.returns-in-Again-clause-delivered
returns-in-Again-clause-delivered c =
    let log = c.args.log.now.log in
    let held = c.args.held.now.ops in
    let new = look_for-same log c.args.op.now _ false c.in_ok-look.ensures c.if-branch.false in
    let clock = clock_of-same c.known.result.now _ c.args.log.now c.known.ensures c.doc.ensures.value in
    let waits = is_ready-same c.known.result.now log c.args.op.now false clock c.if-not-ready.ensures in
    let with_held : HeldOperations → Delivered = λ h. record { outcome = Ok Again; log = log; held = h.ops } in
    deliver-kept_again c.args.site log held c.args.op.now (sym c.if-claims_site.ensures.value) new waits
    (c.in_ok-offer.ensures.value ∙ ap Ok c.in-Again.is)
    ∙ sym (ap with_held (c.in_ok-offer.ensures.held
    ∙ ap (λ a. let h : HeldOperations = record c.args.held.now { ops = after_arrival a c.args.op.now held } in h) c.in-Again.is))

pub returns-then-branch-2-clause-delivered : goal.returns-then-branch-2-clause-delivered
returns-then-branch-2-clause-delivered c =
    let new = look_for-same c.args.log.now.log c.args.op.now _ false c.in_ok-look.ensures c.if-branch.false in
    deliver-held c.args.site c.args.log.now.log c.args.held.now.ops c.args.op.now (sym c.if-claims_site.ensures.value) new
    (look_for-same c.args.held.now.ops c.args.op.now _ true c.in_ok-look-2.ensures c.if-branch-2.true)

pub returns-clause-delivered : goal.returns-clause-delivered
returns-clause-delivered c =
    let log = c.args.log.now.log in
    let held = c.args.held.now.ops in
    let new = look_for-same log c.args.op.now _ false c.in_ok-look.ensures c.if-branch.false in
    let not_held = look_for-same held c.args.op.now _ false c.in_ok-look-2.ensures c.if-branch-2.false in
    let clock = clock_of-same c.known.result.now _ c.args.log.now c.known.ensures c.doc.ensures.value in
    let ready = is_ready-same c.known.result.now log c.args.op.now true clock c.if-not-ready.ensures in
    deliver-took c.args.site log held c.args.op.now (sym c.if-claims_site.ensures.value) new not_held ready c.in_ok-tally.ensures.accepted
    ∙ sym (ap settled c.in_ok-tally.ensures.settled)
