use Rattle.std.proofs.Common.{refl, false, true, ◌∙◌, ap, sym, not, Some, arith}
use Rattle.std.proofs.lemmas.Bool.{cond-true, cond-false}
use Rattle.opid.specs.declared.kind.OpKind.TheVariants.{Ins, Del}
use Rattle.opid.specs.Stamps.{is_before}
use Rattle.rga_list.proofs.Ordered.{has_stamp-some, has_stamp-none}
use Rattle.versions.proofs.Integrated.{refusal-few, known}
use Rattle.versions.proofs.integrate.look_up.Goals as goal

pub returns-in-None-find-clause-cause : goal.returns-in-None-find-clause-cause
returns-in-None-find-clause-cause c =
    let entries = c.args.list.now.entries in
    let none = has_stamp-none c.in-Some.parent entries (sym c.find.ensures.value ∙ c.in-None-find.is) in
    sym (sym (cond-true _ _ _ (ap not (known c.args.log.now.ops entries c.in-Some.parent false false c.requires.sound c.requires.shown
    (sym none) refl)))
    ∙ refusal-few c.args.log.now.ops c.args.op.now (Ins (Some c.in-Some.parent) c.in-Ins.ch)
    (omega (arith, c.if-len-ge-MAX_OPERATIONS.false, c.len.ensures))
    (sym c.kind.ensures ∙ c.in-Ins.is ∙ ap (λ o. Ins o c.in-Ins.ch) c.in-Some.is))

pub returns-then-is_before-clause-ok : goal.returns-then-is_before-clause-ok
returns-then-is_before-clause-ok c =
    let entries = c.args.list.now.entries in
    let there = has_stamp-some c.in-Some.parent entries c.in-Some-find.elem (sym c.find.ensures.value ∙ c.in-Some-find.is) in
    sym (sym (cond-false _ _ _ (ap not (known c.args.log.now.ops entries c.in-Some.parent true true c.requires.sound c.requires.shown
    (sym there) refl))
    ∙ cond-false _ _ _ (ap not (ap (is_before c.in-Some.parent) (sym c.stamp.ensures) ∙ sym c.is_before.ensures ∙ c.if-is_before.true)))
    ∙ refusal-few c.args.log.now.ops c.args.op.now (Ins (Some c.in-Some.parent) c.in-Ins.ch)
    (omega (arith, c.if-len-ge-MAX_OPERATIONS.false, c.len.ensures))
    (sym c.kind.ensures ∙ c.in-Ins.is ∙ ap (λ o. Ins o c.in-Ins.ch) c.in-Some.is))

pub returns-else-is_before-clause-cause : goal.returns-else-is_before-clause-cause
returns-else-is_before-clause-cause c =
    let entries = c.args.list.now.entries in
    let there = has_stamp-some c.in-Some.parent entries c.in-Some-find.elem (sym c.find.ensures.value ∙ c.in-Some-find.is) in
    sym (sym (cond-false _ _ _ (ap not (known c.args.log.now.ops entries c.in-Some.parent true true c.requires.sound c.requires.shown
    (sym there) refl))
    ∙ cond-true _ _ _ (ap not (ap (is_before c.in-Some.parent) (sym c.stamp.ensures) ∙ sym c.is_before.ensures ∙ c.if-is_before.false)))
    ∙ refusal-few c.args.log.now.ops c.args.op.now (Ins (Some c.in-Some.parent) c.in-Ins.ch)
    (omega (arith, c.if-len-ge-MAX_OPERATIONS.false, c.len.ensures))
    (sym c.kind.ensures ∙ c.in-Ins.is ∙ ap (λ o. Ins o c.in-Ins.ch) c.in-Some.is))

pub returns-in-None-find-2-clause-cause : goal.returns-in-None-find-2-clause-cause
returns-in-None-find-2-clause-cause c =
    let entries = c.args.list.now.entries in
    let none = has_stamp-none c.in-Del.target entries (sym c.find-in-Del.ensures.value ∙ c.in-None-find-2.is) in
    sym (sym (cond-true _ _ _ (ap not (known c.args.log.now.ops entries c.in-Del.target false false c.requires.sound c.requires.shown
    (sym none) refl)))
    ∙ refusal-few c.args.log.now.ops c.args.op.now (Del c.in-Del.target) (omega (arith, c.if-len-ge-MAX_OPERATIONS.false, c.len.ensures))
    (sym c.kind.ensures ∙ c.in-Del.is))

pub returns-in-Some-find-2-clause-ok : goal.returns-in-Some-find-2-clause-ok
returns-in-Some-find-2-clause-ok c =
    let entries = c.args.list.now.entries in
    let there = has_stamp-some c.in-Del.target entries c.in-Some-find-2.elem (sym c.find-in-Del.ensures.value ∙ c.in-Some-find-2.is) in
    sym (sym (cond-false _ _ _ (ap not (known c.args.log.now.ops entries c.in-Del.target true true c.requires.sound c.requires.shown
    (sym there) refl)))
    ∙ refusal-few c.args.log.now.ops c.args.op.now (Del c.in-Del.target) (omega (arith, c.if-len-ge-MAX_OPERATIONS.false, c.len.ensures))
    (sym c.kind.ensures ∙ c.in-Del.is))
