-- The file is cut, and then synced.
use Rattle.std.proofs.Common.{◌≡◌, length, true, false, sym, ap, ◌∙◌, subst, rules, arith}
use Rattle.std.proofs.lemmas.List.{length-take-le, take_all}
use Rattle.keeper.specs.Turn.{OpensAs}
use Rattle.keeper.specs.Kept.{KeepsAt}
use Rattle.keeper.proofs.Moments.{started, goes_on}
use Rattle.keeper.proofs.Steps.{after_cut, after_sync, settled}
use Rattle.keeper.proofs.kept.KeptFile.settle.Goals as goal

pub returns-in_err-cut-clause-keeps : goal.returns-in_err-cut-clause-keeps
returns-in_err-cut-clause-keeps g c log k =
    let self = c.args.self.now in
    let d = g.D.Disk in
    let P = OpensAs self.mark.version log in
    let dirty : self.is_clean ≡ false = search rules in
    let cut = after_cut d.honest d.seen d.may_leave d.fresh self.disk c.cut.new.self self.mark self.is_clean log k
    c.cut.ensures.honest c.cut.ensures.keeps c.cut.ensures.crash in
    let at_start = started d.moment d.left_since self.disk P (λ f left. k.opens f (g.met.D.Disk.only_now self.disk f k.is_honest left)) in (
      subst (λ b. KeepsAt d.honest d.seen d.may_leave d.fresh c.cut.new.self self.mark b log) (sym dirty) cut,
      goes_on d.moment d.left_since self.disk self.disk c.cut.new.self P _ at_start (c.cut.ensures.time k.is_honest) cut.opens,
    )

pub returns-in_err-sync-clause-keeps : goal.returns-in_err-sync-clause-keeps
returns-in_err-sync-clause-keeps g c log k =
    let self = c.args.self.now in
    let d = g.D.Disk in
    let P = OpensAs self.mark.version log in
    let dirty : self.is_clean ≡ false = search rules in
    let cut = after_cut d.honest d.seen d.may_leave d.fresh self.disk c.cut.new.self self.mark self.is_clean log k
    c.cut.ensures.honest c.cut.ensures.keeps c.cut.ensures.crash in
    let at_start = started d.moment d.left_since self.disk P (λ f left. k.opens f (g.met.D.Disk.only_now self.disk f k.is_honest left)) in
    let after =
    goes_on d.moment d.left_since self.disk self.disk c.cut.new.self P _ at_start (c.cut.ensures.time k.is_honest) cut.opens in (
      subst (λ b. KeepsAt d.honest d.seen d.may_leave d.fresh c.sync.new.self self.mark b log) (sym dirty)
          (after_sync d.honest d.seen d.may_leave d.fresh c.cut.new.self c.sync.new.self self.mark false log cut
          c.sync.ensures.honest c.sync.ensures.seen c.sync.ensures.crash),
      goes_on d.moment d.left_since self.disk c.cut.new.self c.sync.new.self P _ after (c.sync.ensures.time cut.is_honest)
          (λ f left. cut.opens f (c.sync.ensures.crash cut.is_honest f left)),
    )

pub returns-in_ok-sync-clause-keeps : goal.returns-in_ok-sync-clause-keeps
returns-in_ok-sync-clause-keeps g c log k =
    let self = c.args.self.now in
    let d = g.D.Disk in
    let P = OpensAs self.mark.version log in
    let cut = after_cut d.honest d.seen d.may_leave d.fresh self.disk c.cut.new.self self.mark self.is_clean log k
    c.cut.ensures.honest c.cut.ensures.keeps c.cut.ensures.crash in
    let at_start = started d.moment d.left_since self.disk P (λ f left. k.opens f (g.met.D.Disk.only_now self.disk f k.is_honest left)) in
    let after =
    goes_on d.moment d.left_since self.disk self.disk c.cut.new.self P _ at_start (c.cut.ensures.time k.is_honest) cut.opens in
    let size : length (d.seen c.cut.new.self) ≡ self.mark.length =
    ap length (c.in_ok-cut.ensures.cut k.is_honest k.within).0 ∙ length-take-le self.mark.length (d.seen self.disk) k.within in (
      settled d.honest d.seen d.may_leave d.fresh c.cut.new.self c.sync.new.self self.mark false log cut size
          (c.in_ok-cut.ensures.cut k.is_honest k.within).1 c.sync.ensures.honest c.sync.ensures.seen c.sync.ensures.crash
          c.in_ok-sync.ensures.durable,
      goes_on d.moment d.left_since self.disk c.cut.new.self c.sync.new.self P _ after (c.sync.ensures.time cut.is_honest)
          (λ f left. cut.opens f (c.sync.ensures.crash cut.is_honest f left)),
    )

pub returns-else-not-self-clause-keeps : goal.returns-else-not-self-clause-keeps
returns-else-not-self-clause-keeps g c log k =
    let self = c.args.self.now in
    let d = g.D.Disk in
    let P = OpensAs self.mark.version log in
    (k, started d.moment d.left_since self.disk P (λ f left. k.opens f (g.met.D.Disk.only_now self.disk f k.is_honest left)))

pub returns-in_ok-sync-clause-cut : goal.returns-in_ok-sync-clause-cut
returns-in_ok-sync-clause-cut g c log k =
    c.sync.ensures.seen (c.cut.ensures.honest k.is_honest) ∙ (c.in_ok-cut.ensures.cut k.is_honest k.within).0

pub returns-else-not-self-clause-cut : goal.returns-else-not-self-clause-cut
returns-else-not-self-clause-cut g c log k =
    let self = c.args.self.now in
    let clear : self.is_clean ≡ true = search rules in
    sym (take_all self.mark.length (g.D.Disk.seen self.disk) (omega (arith, (k.clean clear).whole)))
