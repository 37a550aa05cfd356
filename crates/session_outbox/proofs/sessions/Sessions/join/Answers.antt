use Rattle.std.proofs.Common.{◌≡◌, ◌∙◌, ◌+◌, List, None, ap, refl, subst, sym}
use Rattle.opid.specs.Sessions.{Session, Outbox, HaveRisingNumbers, session_with, joined, after_join}
use Rattle.session_outbox.specs.Internal.Kept.{sessions_of}
use Rattle.session_outbox.proofs.Entries.{inserted}
use Rattle.session_outbox.proofs.Numbered.{numbered-joined, next_is_new}
use Rattle.session_outbox.proofs.sessions.Sessions.join.Goals as goal

pub invariant_of-self-2 : goal.invariant_of-self-2
invariant_of-self-2 c =
    subst (λ (ws : List Session). HaveRisingNumbers 0 (c.self.inside.next_number + 1) ws)
    (sym (ap sessions_of c.in_ok-insert.ensures.entries ∙ inserted 0 c.self.inside.next_number _ c.self.inside.facts.entries
    c.self.invariant))
    (numbered-joined 0 c.self.inside.next_number (sessions_of c.self.inside.facts.entries)
    (joined c.self.inside.next_number c.args.version c.args.units) refl c.self.invariant)

pub returns-clause-fresh : goal.returns-clause-fresh
returns-clause-fresh c =
    subst (λ (S : Outbox). session_with c.self.inside.next_number S.sessions ≡ None) c.self.view_is
    (next_is_new 0 c.self.inside.next_number (sessions_of c.self.inside.facts.entries) c.self.invariant)

pub returns-clause-next : goal.returns-clause-next
returns-clause-next c =
    ap (λ (ws : List Session). let T : Outbox = record { sessions = ws; next_number = c.self.inside.next_number + 1 } in T)
    (ap sessions_of c.in_ok-insert.ensures.entries ∙ inserted 0 c.self.inside.next_number _ c.self.inside.facts.entries
    c.self.invariant)
    ∙ ap (after_join c.args.version c.args.units) c.self.view_is
