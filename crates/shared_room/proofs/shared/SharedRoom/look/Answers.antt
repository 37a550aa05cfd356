-- A turn that leaves the room as it found it.
use Rattle.std.proofs.Common.{ap}
use Rattle.history_lock.specs.Locks.{sight}
use Rattle.shared_room.specs.Trails.{trail_of}
use Rattle.shared_room.specs.Views.{opening}
use Rattle.shared_room.proofs.Trails.{same_opening}
use Rattle.shared_room.proofs.Ending.{begins_drawn, is_pass}
use Rattle.shared_room.proofs.Looking.{visits_after, shown_after}
use Rattle.shared_room.proofs.shared.SharedRoom.look.Goals as goal

pub returns-in-Ok-found-clause-pass : goal.returns-in-Ok-found-clause-pass
returns-in-Ok-found-clause-pass g c =
    is_pass c.args.self.now (record { pass = c.leave.new.pass }) c.leave.ensures.pass (ap (λ s. s.stage) c.leave.ensures.left)

pub returns-in-Err-clause-pass : goal.returns-in-Err-clause-pass
returns-in-Err-clause-pass g c =
    is_pass c.args.self.now (record { pass = c.leave.new.pass }) c.leave.ensures.pass (ap (λ s. s.stage) c.leave.ensures.left)

pub returns-in-Ok-found-clause-told : goal.returns-in-Ok-found-clause-told
returns-in-Ok-found-clause-told g c =
    let R = c.enter-hold.result.value.room.value in
    let begins = begins_drawn (sight c.args.pass.now.pass) (sight c.draw_when_free.new.pass) (sight c.enter-hold.new.pass) _ _ (trail_of R)
    (λ none. absurd (cc (c.in-Ok.ensures.worn.1 none))) c.in-Ok.ensures.ok c.enter-hold.ensures.found c.enter-hold.ensures.turn.seen
    c.enter-hold.ensures.turn.account c.enter-hold.ensures.turn.turns in
    let found = ap (λ s. s.found) c.enter-hold.ensures.found in (
      visits_after (sight c.args.pass.now.pass) (sight c.enter-hold.new.pass) (sight c.leave.new.pass) R begins found c.leave.ensures.left,
      shown_after (opening c.args.self.now) (sight c.enter-hold.new.pass) (sight c.leave.new.pass) R c.args.after c.in-Ok-found.look
          (same_opening c.args.self.now.lock.table.shared.key.value.room.value R (sight c.enter-hold.new.pass)
          c.enter-hold.ensures.pass.0.opening (ap (λ s. s.seen) c.enter-hold.ensures.found))
          found c.leave.ensures.left c.in-Ok-found.ensures,
    )

pub returns-in-Err-clause-memory : goal.returns-in-Err-clause-memory
returns-in-Err-clause-memory g c = λ _.
    let R = c.enter-hold.result.value.room.value in
    let begins = begins_drawn (sight c.args.pass.now.pass) (sight c.draw_when_free.new.pass) (sight c.enter-hold.new.pass) _ _ (trail_of R)
    (λ none. absurd (cc (c.in-Ok.ensures.worn.1 none))) c.in-Ok.ensures.ok c.enter-hold.ensures.found c.enter-hold.ensures.turn.seen
    c.enter-hold.ensures.turn.account c.enter-hold.ensures.turn.turns in
    visits_after (sight c.args.pass.now.pass) (sight c.enter-hold.new.pass) (sight c.leave.new.pass) R begins
    (ap (λ s. s.found) c.enter-hold.ensures.found) c.leave.ensures.left
