-- A sync is one more call.
use Rattle.std.proofs.Common.{inl, refl, ap, ◌∙◌}
use Rattle.keeper.specs.Memory.{seen_after}
use Rattle.keeper.specs.declared.memory.Call.TheVariants.{Sync}
use Rattle.keeper.proofs.Replays.{seen_more, elapses_to, synced}
use Rattle.keeper.proofs.memory.MemoryFileDisk.sync.Goals as goal

pub returns-clause-durable : goal.returns-clause-durable
returns-clause-durable c still held =
    let self = c.args.self.now in
    (synced self.first.items self.calls.items c.push.new.self.items c.in_ok-push.ensures.items, refl)

pub returns-clause-seen : goal.returns-clause-seen
returns-clause-seen c still =
    let self = c.args.self.now in
    ap (seen_after self.first.items) c.in_ok-push.ensures.items ∙ seen_more self.first.items self.calls.items Sync

pub returns-clause-crash : goal.returns-clause-crash
returns-clause-crash c still d left =
    let self = c.args.self.now in
    inl (synced self.first.items self.calls.items c.push.new.self.items c.in_ok-push.ensures.items d left)

pub returns-clause-time : goal.returns-clause-time
returns-clause-time c still =
    let self = c.args.self.now in
    elapses_to self.first.items self.calls.items c.push.new.self.items Sync c.in_ok-push.ensures.items
