-- Where the input is over, nothing is read or written.
use Rattle.std.proofs.Common.{[], refl}
use Rattle.line_engine.proofs.Known.{Consumes-none, Appends-none}
use Rattle.commands.proofs.Playing.{serves_nothing}
use Rattle.commands.proofs.lines.serve_rest.Goals as goal

pub returns-then-is_over-clause-serves : goal.returns-then-is_over-clause-serves
returns-then-is_over-clause-serves g c =
    let o = c.requires.over c.if-is_over.true in (
      [],
      [],
      Consumes-none (g.R.Read.remaining c.args.input.now.inner),
      Appends-none (g.W.Write.contents c.args.output.now.inner),
      (λ _. refl),
      (serves_nothing c.args.desk.now c.args.window.now o.0, o.1),
    )
