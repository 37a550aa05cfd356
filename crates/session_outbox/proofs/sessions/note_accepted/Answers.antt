use Rattle.std.proofs.Common.{◌+◌, ◌<◌, arith, refl, subst}
use Rattle.std.specs.Prelude.{MatchOption}
use Rattle.session_outbox.specs.declared.facts.Facts.{Facts}
use Rattle.opid.specs.Sessions.{with_accepted}
use Rattle.session_outbox.proofs.Entries.{there, none_there, changed}
use Rattle.session_outbox.proofs.sessions.note_accepted.Goals as goal

pub overflow_add-own : goal.overflow_add-own
overflow_add-own c =
    let below : c.in-Some.own.now.last < 4294967295 =
    subst (λ o. MatchOption o ⊥ (λ w. w.last < 4294967295))
    (there c.args.s c.in-Some.own.now c.args.facts.now.entries c.in-Some.ensures.value) c.requires in
    omega arith

pub returns-in-Some : goal.returns-in-Some
returns-in-Some c =
    let new : Facts = record c.in-Some.own.now { last = c.in-Some.own.now.last + 1; start = c.args.from; end = c.args.to } in
    changed c.args.s (with_accepted c.args.from c.args.to) c.in-Some.own.now new c.args.facts.now.entries
    (c.get_mut.follows.lender new).entries (c.get_mut.follows.holds new).0 c.in-Some.ensures.value refl

pub returns-in_default : goal.returns-in_default
returns-in_default c =
    absurd (subst (λ o. MatchOption o ⊥ (λ w. w.last < 4294967295))
    (none_there c.args.s c.args.facts.now.entries c.in_default.ensures.value) c.requires)
