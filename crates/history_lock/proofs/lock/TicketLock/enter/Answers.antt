-- The look that found the turn found it for a pass that knew then what it had known as it began to wait.
use Rattle.std.proofs.Common.{◌∙◌, ap, rules, subst}
use Rattle.history_lock.specs.declared.pass.Sight.{Sight}
use Rattle.history_lock.specs.Locks.{sight, opening_of}
use Rattle.history_lock.specs.Sights.{took}
use Rattle.history_lock.specs.Told.{Finds}
use Rattle.history_lock.proofs.Turns.{first_finds_opening}
use Rattle.history_lock.proofs.lock.TicketLock.enter.Goals as goal

pub returns-in-Ok-clause-pass : goal.returns-in-Ok-clause-pass
returns-in-Ok-clause-pass g c =
    let found = c.in-Ok.ensures.found.0 in let has = c.loop.invariant.3 in
    (c.look.ensures.pass, (ap (λ w. w.stage) found, ap (λ w. w.drawn) found ∙ has.1))

pub returns-in-Ok-clause-found : goal.returns-in-Ok-clause-found
returns-in-Ok-clause-found g c =
    let w = sight c.look.new.pass in let x = g.T.Trailed.trail c.in-Ok.value in
    c.in-Ok.ensures.found.0 ∙ ap (λ v. took v w.ends x) c.loop.invariant.4

pub returns-in-Ok-clause-turn : goal.returns-in-Ok-clause-turn
returns-in-Ok-clause-turn g c =
    let w = sight c.look.new.pass in
    let P : Sight g.row.T-Entry.Denot → Type 0 =
    λ v. Finds g.T.Trailed.trail g.T.Trailed.mark v w c.args.ticket.number c.in-Ok.value in
    subst P c.loop.invariant.4 c.in-Ok.ensures.found.1

pub returns-in-Ok-clause-first : goal.returns-in-Ok-clause-first
returns-in-Ok-clause-first g c = λ zero.
    first_finds_opening (sight c.look.new.pass) c.args.ticket.number (g.T.Trailed.trail c.in-Ok.value)
    (opening_of g.T.Trailed.trail c.args.self.now) c.in-Ok.ensures.found.1.left zero c.look.ensures.pass.opening

pub loop-preserved : goal.loop-preserved
loop-preserved g c =
    let same = c.in-Err.ensures.not_yet in let has = c.loop.invariant.3 in (
      search rules,
      search rules,
      c.look.ensures.pass,
      (ap (λ w. w.stage) same ∙ has.0, ap (λ w. w.drawn) same ∙ has.1),
      same ∙ c.loop.invariant.4,
    )
