use Rattle.history_lock.specs.Locks.{sight, ticket_of}
use Rattle.history_lock.proofs.Turns.{closes_exact, closes_marked}
use Rattle.history_lock.proofs.lock.TicketLock.close.Goals as goal

pub returns-in-Ok-clause-exact : goal.returns-in-Ok-clause-exact
returns-in-Ok-clause-exact g c = λ n trail all left.
    closes_exact g.T.Trailed.trail g.T.Trailed.mark (sight c.args.pass) (sight c.try_enter.new.pass)
    (ticket_of c.in-Ok.hold) n trail c.in-Ok.hold.value c.in-Ok.ensures.turn c.in-Ok.ensures.below all left

pub returns-in-Ok-clause-marked : goal.returns-in-Ok-clause-marked
returns-in-Ok-clause-marked g c =
    closes_marked g.T.Trailed.trail g.T.Trailed.mark (sight c.args.pass) (sight c.try_enter.new.pass)
    (ticket_of c.in-Ok.hold) c.in-Ok.hold.value c.in-Ok.ensures.turn c.in-Ok.ensures.below
