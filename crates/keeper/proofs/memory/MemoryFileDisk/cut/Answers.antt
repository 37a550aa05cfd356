-- A cut is one more call; where it fails the file is as it was.
use Rattle.std.proofs.Common.{◌≡◌, take, ap, ◌∙◌, subst, arith}
use Rattle.std.proofs.lemmas.List.{take-take}
use Rattle.keeper.specs.Memory.{seen_after, LeftAfter}
use Rattle.keeper.specs.declared.memory.Call.TheVariants.{Cut}
use Rattle.keeper.proofs.Replays.{seen_more, elapses_to, cut_follows, not_cut}
use Rattle.keeper.proofs.memory.MemoryFileDisk.cut.Goals as goal

pub returns-then-next-clause-crash : goal.returns-then-next-clause-crash
returns-then-next-clause-crash c still d left = (d, left, not_cut c.args.len d)

pub returns-in_err-push-clause-crash : goal.returns-in_err-push-clause-crash
returns-in_err-push-clause-crash c still d left =
    (d, subst (λ calls. LeftAfter c.args.self.now.first.items calls d) c.in_err-push.ensures.items left, not_cut c.args.len d)

pub returns-clause-cut : goal.returns-clause-cut
returns-clause-cut c still within =
    let self = c.args.self.now in (
      ap (seen_after self.first.items) c.in_ok-push.ensures.items ∙ seen_more self.first.items self.calls.items (Cut c.args.len),
      omega
          arith,
    )

pub returns-clause-keeps : goal.returns-clause-keeps
returns-clause-keeps c still within =
    let self = c.args.self.now in
    let old = seen_after self.first.items self.calls.items in
    let now : seen_after self.first.items c.push.new.self.items ≡ take c.args.len old =
    ap (seen_after self.first.items) c.in_ok-push.ensures.items ∙ seen_more self.first.items self.calls.items (Cut c.args.len) in
    ap (take c.args.len) now ∙ take-take c.args.len c.args.len old (omega arith)

pub returns-clause-crash : goal.returns-clause-crash
returns-clause-crash c still d left =
    let self = c.args.self.now in
    cut_follows c.args.len self.first.items self.calls.items c.push.new.self.items c.in_ok-push.ensures.items d left

pub returns-clause-time : goal.returns-clause-time
returns-clause-time c still =
    let self = c.args.self.now in
    elapses_to self.first.items self.calls.items c.push.new.self.items (Cut c.args.len) c.in_ok-push.ensures.items
