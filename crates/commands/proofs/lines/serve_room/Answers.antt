-- What was served, and the room's closing.
use Rattle.std.proofs.Common.{◌++◌, ◌∙◌, ap}
use Rattle.room_model.specs.History.{Account}
use Rattle.line_engine.proofs.Known.{Appends-then}
use Rattle.commands.proofs.Playing.{closed, broken}
use Rattle.commands.proofs.lines.serve_room.Goals as goal

pub returns-in-Ok-clause-serves : goal.returns-in-Ok-clause-serves
returns-in-Ok-clause-serves g c =
    let h = c.in-Ok.ensures.serves in
    let k = c.close.ensures.closes in (
      h.0,
      h.1 ++ k.0,
      h.2,
      Appends-then (g.W.Write.contents c.args.output.now.inner) (g.W.Write.contents c.serve_rest.new.output.inner)
          (g.W.Write.contents c.close.new.output.inner) h.1 k.0 h.3 k.1,
      h.4,
      closed c.args.opening.room c.args.snapshot c.new-desk.result c.serve_rest.new.desk (c.args.window.now ++ h.0) h.1 k.0
          (g.R.Read.remaining c.serve_rest.new.input.inner) c.replica.result.now.log c.close.result
          c.new-desk.ensures h.5 (c.replica.ensures.log ∙ ap (λ (r : Account). r.state.log) c.room.ensures) k.2,
    )

pub returns-clause-serves : goal.returns-clause-serves
returns-clause-serves g c =
    let h = c.in-Err.ensures.serves in (
      h.0,
      h.1,
      h.2,
      h.3,
      h.4,
      broken c.args.opening.room c.args.snapshot c.new-desk.result c.serve_rest.new.desk (c.args.window.now ++ h.0) h.1
          (g.R.Read.remaining c.serve_rest.new.input.inner) c.in-Err.why c.new-desk.ensures h.5,
    )
