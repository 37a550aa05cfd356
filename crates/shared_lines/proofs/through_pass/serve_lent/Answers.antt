use Rattle.std.proofs.Common.{subst}
use Rattle.shared_room.specs.declared.shared.SharedRoom.{SharedRoom}
use Rattle.shared_room.specs.Views.{IsPassOf}
use Rattle.shared_lines.proofs.Lending.{lent}
use Rattle.shared_lines.proofs.through_pass.serve_lent.Goals as goal

pub returns-clause-lent : goal.returns-clause-lent
returns-clause-lent g c =
    let h = c.serve_lines.ensures.serves in
    (lent c.args.desk.now c.serve_lines.new.desk h.0 (g.R.Read.remaining c.serve_lines.new.input.inner) h.1 c.serve_lines.result h.4).1

pub returns-clause-pass : goal.returns-clause-pass
returns-clause-pass g c =
    let h = c.serve_lines.ensures.serves in
    subst (λ (s : SharedRoom). IsPassOf s c.serve_lines.new.desk.pass.now)
    (lent c.args.desk.now c.serve_lines.new.desk h.0 (g.R.Read.remaining c.serve_lines.new.input.inner) h.1 c.serve_lines.result h.4).0
    c.serve_lines.ensures.ready

pub returns-clause-serves : goal.returns-clause-serves
returns-clause-serves g c =
    let h = c.serve_lines.ensures.serves in (
      h.0,
      h.1,
      h.2,
      h.3,
      (lent c.args.desk.now c.serve_lines.new.desk h.0
          (g.R.Read.remaining c.serve_lines.new.input.inner) h.1 c.serve_lines.result h.4).2,
    )
