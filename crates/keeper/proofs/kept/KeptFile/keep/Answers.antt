-- What an earlier turn has left is cut off, and then the operations are added.
use Rattle.std.proofs.Common.{◌∙◌, inl, inr, drop, sym, ap, subst}
use Rattle.std.proofs.lemmas.Result.{on_ok_weaker}
use Rattle.journal.specs.declared.mark.Mark.{Mark}
use Rattle.keeper.specs.Disk.{LeavesOnly}
use Rattle.keeper.specs.Turn.{OpensAs}
use Rattle.keeper.proofs.Moments.{joined}
use Rattle.keeper.proofs.Steps.{written_since}
use Rattle.keeper.proofs.kept.KeptFile.keep.Goals as goal

pub returns-clause-turned : goal.returns-clause-turned
returns-clause-turned g c log k is =
    let d = g.D.Disk in
    let self = c.args.self.now in
    let mid = c.settle.new.self in
    let new = c.add.new.self in
    let first = c.settle.ensures.keeps log k in
    let mark = c.settle.ensures.mark in
    let rest = c.add.ensures.turned c.in_ok-settle.ensures.clean log first.0 (is ∙ sym (ap (λ (m : Mark). drop m.version log) mark)) in (
      rest.0,
      elim rest.1 [ inl e ↦ inl e | inr e ↦ inr (e ∙ mark) ],
      joined d.moment d.left_since self.disk mid.disk new.disk (OpensAs self.mark.version log) first.1
          (subst (λ (m : Mark). LeavesOnly d.moment d.left_since mid.disk new.disk (OpensAs m.version log)) mark rest.2),
    )

pub returns-clause-written : goal.returns-clause-written
returns-clause-written g c =
    on_ok_weaker c.add.result (λ written log k.
    written_since g.D.Disk.seen c.args.self.now c.settle.new.self c.add.new.self c.args.ops.now c.settle.ensures.mark
    (c.in_ok-settle.ensures.cut log k) (written c.in_ok-settle.ensures.clean log (c.settle.ensures.keeps log k).0)) c.add.ensures.written
