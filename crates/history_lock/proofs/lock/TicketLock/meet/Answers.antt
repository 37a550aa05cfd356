-- Two turns, with what each pass told the other before.
use Rattle.std.proofs.Common.{ap, sym, subst, ◌∙◌}
use Rattle.history_lock.specs.declared.pass.Sight.{Sight}
use Rattle.history_lock.specs.Locks.{sight, Meets}
use Rattle.history_lock.proofs.Prefixes.{prefix_trans}
use Rattle.history_lock.proofs.Turns.{take_turns}
use Rattle.history_lock.proofs.lock.TicketLock.meet.Goals as goal

pub returns-clause-turns : goal.returns-clause-turns
returns-clause-turns g c =
    let first = c.visit.ensures.turn in let second = c.visit-2.ensures.turn in
    take_turns (sight c.args.a.now) (sight c.args.b.now) (sight c.tell.new.to) (sight c.visit.new.pass) (sight c.tell-2.new.from)
    (sight c.tell.new.from) (sight c.tell-2.new.to) (sight c.visit-2.new.pass)
    c.tell.ensures.from c.tell-2.ensures.from c.tell.ensures.grows.0 c.tell.ensures.grows.1 first.0 first.1 first.2
    c.tell-2.ensures.grows.0
    c.tell-2.ensures.grows.1 second.0 second.1 second.2

pub returns-clause-met : goal.returns-clause-met
returns-clause-met g c =
    let a = sight c.args.a.now in let b = sight c.args.b.now in
    let a1 = sight c.tell.new.to in let a2 = sight c.visit.new.pass in
    let b1 = sight c.tell-2.new.to in let b2 = sight c.visit-2.new.pass in
    let told = c.tell.ensures.to in let first = c.visit.ensures.visits in let back = c.tell-2.ensures.to in
    let second = c.visit-2.ensures.visits in let same = c.tell.ensures.from in
    let P : Sight g.row.T-Entry.Denot → Type 0 = λ u. Meets a b u b2 in
    subst P (sym c.tell-2.ensures.from) record {
      first = prefix_trans a.seen a1.seen a2.seen told.seen first.seen;
      second = prefix_trans b.seen a1.seen a2.seen told.told first.seen;
      both = prefix_trans a2.seen b1.seen b2.seen back.told second.seen;
      account = (
        prefix_trans a.ends a1.ends a2.ends told.account.0 first.account,
        prefix_trans b.ends a1.ends a2.ends told.account.1 first.account,
        prefix_trans a2.ends b1.ends b2.ends back.account.1 second.account,
      );
      found = (first.found, second.found);
      mine = (first.mine ∙ told.mine, second.mine ∙ (back.mine ∙ ap (λ u. u.mine) same));
      left = (first.left ∙ told.left, second.left ∙ (back.left ∙ ap (λ u. u.left) same));
      lost = (first.lost ∙ told.lost, second.lost ∙ (back.lost ∙ ap (λ u. u.lost) same));
    }
