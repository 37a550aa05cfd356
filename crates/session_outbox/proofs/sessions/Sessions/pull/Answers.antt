use Rattle.std.proofs.Common.{◌≡◌, ℕ, List, Result, Ok, Err, refl, subst, sym}
use Rattle.std.specs.Prelude.{IfOk, OnErr}
use Rattle.opid.specs.declared.refusal.Refusal.{Refusal}
use Rattle.opid.specs.Sessions.{Session, HaveRisingNumbers, change_session, sent_to}
use Rattle.session_outbox.specs.Internal.Kept.{sessions_of}
use Rattle.session_outbox.proofs.Numbered.{numbered-changed}
use Rattle.session_outbox.proofs.sessions.Sessions.pull.Goals as goal

-- the numbers stay, whatever the pull was answered
stays : (s next : ℕ) (old new : List Session) (result : Result (ℕ × ℕ) Refusal)
    → IfOk result (λ r. new ≡ change_session s (sent_to r.1) old)
    → OnErr result (new ≡ old) → HaveRisingNumbers 0 next old → HaveRisingNumbers 0 next new
stays s next old new (Ok r) sent err h =
    subst (HaveRisingNumbers 0 next) (sym sent) (numbered-changed s 0 next (sent_to r.1) old (λ w. refl) h)
stays s next old new (Err why) sent err h = subst (HaveRisingNumbers 0 next) (sym err) h

pub invariant_of-self : goal.invariant_of-self
invariant_of-self c =
    stays c.args.s c.self.inside.next_number (sessions_of c.self.inside.facts.entries) (sessions_of c.note_sent.new.facts.entries)
    c.note_sent.result c.note_sent.ensures.sent c.note_sent.ensures.err c.self.invariant
