-- The lines are appended, and then synced.
use Rattle.std.proofs.Common.{false, subst}
use Rattle.keeper.specs.Turn.{OpensAs}
use Rattle.keeper.specs.Kept.{KeepsAt}
use Rattle.keeper.proofs.Moments.{started, goes_on}
use Rattle.keeper.proofs.Steps.{after_append, after_sync, after_turn}
use Rattle.keeper.proofs.kept.KeptFile.write.Goals as goal

pub returns-in_err-append-clause-keeps : goal.returns-in_err-append-clause-keeps
returns-in_err-append-clause-keeps g c log k turn clear =
    let self = c.args.self.now in
    let d = g.D.Disk in
    let P = OpensAs self.mark.version log in
    let clean = subst (λ b. KeepsAt d.honest d.seen d.may_leave d.fresh self.disk self.mark b log) clear k in
    let mid =
    after_append d.honest d.seen d.may_leave d.fresh self.disk c.append.new.self self.mark c.args.next log c.args.lines.now clean turn
    c.append.ensures.honest c.append.ensures.keeps c.append.ensures.crash in
    let at_start = started d.moment d.left_since self.disk P (λ f left. k.opens f (g.met.D.Disk.only_now self.disk f k.is_honest left)) in
    (mid, goes_on d.moment d.left_since self.disk self.disk c.append.new.self P _ at_start (c.append.ensures.time k.is_honest) mid.opens)

pub returns-in_err-sync-clause-keeps : goal.returns-in_err-sync-clause-keeps
returns-in_err-sync-clause-keeps g c log k turn clear =
    let self = c.args.self.now in
    let d = g.D.Disk in
    let P = OpensAs self.mark.version log in
    let clean = subst (λ b. KeepsAt d.honest d.seen d.may_leave d.fresh self.disk self.mark b log) clear k in
    let mid =
    after_append d.honest d.seen d.may_leave d.fresh self.disk c.append.new.self self.mark c.args.next log c.args.lines.now clean turn
    c.append.ensures.honest c.append.ensures.keeps c.append.ensures.crash in
    let at_start = started d.moment d.left_since self.disk P (λ f left. k.opens f (g.met.D.Disk.only_now self.disk f k.is_honest left)) in
    let after =
    goes_on d.moment d.left_since self.disk self.disk c.append.new.self P _ at_start (c.append.ensures.time k.is_honest) mid.opens in (
      after_sync d.honest d.seen d.may_leave d.fresh c.append.new.self c.sync.new.self self.mark false log mid
          c.sync.ensures.honest c.sync.ensures.seen c.sync.ensures.crash,
      goes_on d.moment d.left_since self.disk c.append.new.self c.sync.new.self P _ after (c.sync.ensures.time mid.is_honest)
          (λ f left. mid.opens f (c.sync.ensures.crash mid.is_honest f left)),
    )

pub returns-clause-keeps : goal.returns-clause-keeps
returns-clause-keeps g c log k turn clear =
    let self = c.args.self.now in
    let d = g.D.Disk in
    let P = OpensAs self.mark.version log in
    let clean = subst (λ b. KeepsAt d.honest d.seen d.may_leave d.fresh self.disk self.mark b log) clear k in
    let mid =
    after_append d.honest d.seen d.may_leave d.fresh self.disk c.append.new.self self.mark c.args.next log c.args.lines.now clean turn
    c.append.ensures.honest c.append.ensures.keeps c.append.ensures.crash in
    let at_start = started d.moment d.left_since self.disk P (λ f left. k.opens f (g.met.D.Disk.only_now self.disk f k.is_honest left)) in
    let after =
    goes_on d.moment d.left_since self.disk self.disk c.append.new.self P _ at_start (c.append.ensures.time k.is_honest) mid.opens in (
      after_turn d.honest d.seen d.may_leave d.fresh self.disk c.append.new.self c.sync.new.self self.mark c.args.next log c.args.lines.now
          clean mid turn c.in_ok-append.ensures.written c.append.ensures.fresh c.sync.ensures.honest c.sync.ensures.seen
          c.in_ok-sync.ensures.durable,
      goes_on d.moment d.left_since self.disk c.append.new.self c.sync.new.self P _ after (c.sync.ensures.time mid.is_honest)
          (λ f left. mid.opens f (c.sync.ensures.crash mid.is_honest f left)),
    )
