-- The pass draws, waits, and leaves the value as it found it.
use Rattle.std.proofs.Common.{◌≡◌, ℕ, ◌+◌, ◌-◌, ◌++◌, length, drop, arith, subst, sym, ap, ◌∙◌}
use Rattle.std.proofs.Math.Seq.{drop-length}
use Rattle.std.proofs.lemmas.List.{append-nil}
use Rattle.history_lock.specs.Locks.{sight}
use Rattle.history_lock.specs.Turns.{LeftFor}
use Rattle.history_lock.proofs.Prefixes.{prefix_length}
use Rattle.history_lock.proofs.Turns.{took_turn, grows_trans}
use Rattle.history_lock.proofs.lock.TicketLock.visit.Goals as goal

pub returns-clause-turn : goal.returns-clause-turn
returns-clause-turn g c =
    let v = sight c.args.pass.now in let d =
    sight c.draw.new.pass in let e = sight c.enter-hold.new.pass in let w = sight c.leave.new.pass in
    let n = c.in-Ok.ticket.number in let t = g.T.Trailed.trail c.enter-hold.result.value in let f = c.enter-hold.ensures.turn in
    let drew : d.drawn ≡ n = ap (λ u. u.drawn) c.in-Ok.ensures.ok in
    let hold : c.enter-hold.result.turn.number ≡ n =
    sym c.enter-hold.ensures.pass.1.1 ∙ (ap (λ u. u.drawn) c.enter-hold.ensures.found ∙ drew) in
    let P : ℕ → Type 0 = λ k. LeftFor w (k + 1) t in
    let taken = took_turn d e w n t drew c.enter-hold.ensures.found f.turns f.left c.leave.ensures.left
    (subst P hold c.leave.ensures.next) c.leave.ensures.grows in
    let before = prefix_length v.ends e.ends (grows_trans v d e c.draw.ensures.grows f.grows).account in
    let turns = f.turns in
    let drawn : w.drawn ≡ n = ap (λ u. u.drawn) c.leave.ensures.left ∙ (ap (λ u. u.drawn) c.enter-hold.ensures.found ∙ drew) in
    (taken, grows_trans v e w (grows_trans v d e c.draw.ensures.grows f.grows) c.leave.ensures.grows, omega arith)

pub returns-clause-visits : goal.returns-clause-visits
returns-clause-visits g c =
    let v = sight c.args.pass.now in let d = sight c.draw.new.pass in let e = sight c.enter-hold.new.pass in
    let w = sight c.leave.new.pass in let f = c.enter-hold.ensures.turn in
    let drew = c.in-Ok.ensures.ok in let found = c.enter-hold.ensures.found in let left = c.leave.ensures.left in
    let grows = grows_trans v e w (grows_trans v d e c.draw.ensures.grows f.grows) c.leave.ensures.grows in
    let kept : w.left ≡ v.left - 1 = ap (λ u. u.left) left ∙ (ap (λ u. u.left) found ∙ ap (λ u. u.left) drew) in
    let t = g.T.Trailed.trail c.enter-hold.result.value in
    let mine : w.mine ≡ e.mine = ap (λ u. u.mine) left ∙ (ap (λ l. e.mine ++ drop (length l) t) (ap (λ u. u.found) found)
    ∙ (ap (λ l. e.mine ++ l) (drop-length t) ∙ append-nil e.mine)) in
    record {
      seen = grows.seen;
      account = grows.account;
      found = ap (λ u. u.seen) left ∙ sym (ap (λ u. u.found) left ∙ ap (λ u. u.found) found);
      mine = mine ∙ (ap (λ u. u.mine) found ∙ ap (λ u. u.mine) drew);
      left = omega (arith, kept, c.requires.left);
      lost = ap (λ u. u.lost) left ∙ (ap (λ u. u.lost) found ∙ ap (λ u. u.lost) drew);
    }
