-- With no buffer nothing is read or written.
use Rattle.std.proofs.Common.{[], inl, refl}
use Rattle.line_engine.proofs.Known.{Consumes-none, Appends-none}
use Rattle.line_engine.proofs.engine.serve_lines.Goals as goal

pub returns-in_default-clause-serves : goal.returns-in_default-clause-serves
returns-in_default-clause-serves g c = (
  [],
  [],
  Consumes-none (g.R.Read.remaining c.args.input.now.inner),
  Appends-none (g.W.Write.contents c.args.output.now.inner),
  inl (record { cause = refl; unread = refl; unwritten = refl; same = refl }),
)
