use Rattle.std.proofs.Common.{◌∙◌, nat_eq, ap, sym}
use Rattle.std.proofs.lemmas.Map.Steps.{set_value_same}
use Rattle.session_outbox.specs.declared.facts.Facts.{Facts}
use Rattle.opid.specs.Sessions.{Session, sent_to}
use Rattle.opid.specs.Sessions.{pull_of}
use Rattle.session_outbox.specs.Internal.Kept.{session_of, sessions_of}
use Rattle.session_outbox.proofs.Entries.{there, none_there, changed}
use Rattle.session_outbox.proofs.sessions.note_sent.Goals as goal

pub returns-in_default-clause-value : goal.returns-in_default-clause-value
returns-in_default-clause-value c =
    sym (ap (λ o. pull_of o c.args.have c.args.max c.args.version)
    (none_there c.args.s c.args.facts.now.entries c.in_default.ensures.value))

pub returns-in-Ok-clause-value : goal.returns-in-Ok-clause-value
returns-in-Ok-clause-value c =
    c.in-Ok.ensures ∙ sym (ap (λ o. pull_of o c.args.have c.args.max c.args.version)
    (there c.args.s c.in-Some.own.now c.args.facts.now.entries c.in-Some.ensures.value))

pub returns-in-Err-clause-value : goal.returns-in-Err-clause-value
returns-in-Err-clause-value c =
    c.in-Err.ensures ∙ sym (ap (λ o. pull_of o c.args.have c.args.max c.args.version)
    (there c.args.s c.in-Some.own.now c.args.facts.now.entries c.in-Some.ensures.value))

pub returns-in-Ok-clause-sent : goal.returns-in-Ok-clause-sent
returns-in-Ok-clause-sent c =
    let new : Facts = record c.in-Some.own.now { sent = c.max-own.result } in
    changed c.args.s (sent_to c.in-Ok.to) c.in-Some.own.now new c.args.facts.now.entries (c.get_mut.follows.lender new).entries
    (c.get_mut.follows.holds new).0 c.in-Some.ensures.value
    (ap (λ n. let w : Session = record (session_of (c.args.s, c.in-Some.own.now)) { sent = n } in w) c.max-own.ensures)

pub returns-in-Err-clause-err : goal.returns-in-Err-clause-err
returns-in-Err-clause-err c =
    ap sessions_of ((c.get_mut.follows.holds c.in-Some.own.now).0
    ∙ set_value_same (nat_eq c.args.s) c.args.facts.now.entries c.in-Some.own.now (sym c.in-Some.ensures.value))
