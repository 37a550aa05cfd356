use Rattle.std.proofs.Common.{List, subst, sym}
use Rattle.opid.specs.Sessions.{Session, HaveRisingNumbers}
use Rattle.session_outbox.specs.Internal.Kept.{sessions_of}
use Rattle.session_outbox.proofs.Numbered.{numbered-without}
use Rattle.session_outbox.proofs.sessions.Sessions.leave.Goals as goal

pub invariant_of-self : goal.invariant_of-self
invariant_of-self c =
    subst (λ (ws : List Session). HaveRisingNumbers 0 c.self.inside.next_number ws) (sym c.take_out.ensures.others)
    (numbered-without c.args.s 0 c.self.inside.next_number (sessions_of c.self.inside.facts.entries) c.self.invariant)
