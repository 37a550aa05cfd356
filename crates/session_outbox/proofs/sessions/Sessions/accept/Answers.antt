use Rattle.std.proofs.Common.{◌∙◌, List, ap, refl, subst, sym}
use Rattle.opid.specs.Sessions.{Session, Outbox, HaveRisingNumbers, with_accepted, after_accept}
use Rattle.session_outbox.specs.Internal.Kept.{sessions_of}
use Rattle.session_outbox.proofs.Numbered.{numbered-changed}
use Rattle.session_outbox.proofs.sessions.Sessions.accept.Goals as goal

pub invariant_of-self : goal.invariant_of-self
invariant_of-self c =
    subst (λ (ws : List Session). HaveRisingNumbers 0 c.self.inside.next_number ws) (sym c.note_accepted.ensures)
    (numbered-changed c.args.s 0 c.self.inside.next_number (with_accepted c.args.from c.args.to) (sessions_of c.self.inside.facts.entries)
    (λ w. refl) c.self.invariant)

pub returns : goal.returns
returns c =
    ap (λ (ws : List Session). let T : Outbox = record { sessions = ws; next_number = c.self.inside.next_number } in T)
    c.note_accepted.ensures
    ∙ ap (after_accept c.args.s c.args.from c.args.to) c.self.view_is
