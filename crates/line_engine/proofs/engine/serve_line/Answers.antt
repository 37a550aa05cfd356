-- What was sent is a line's answer.
use Rattle.std.proofs.Common.{sym, ◌∙◌}
use Rattle.line_engine.proofs.engine.serve_line.Goals as goal

pub returns-clause-sent : goal.returns-clause-sent
returns-clause-sent g c =
    let w = c.if-write_all.ensures.wrote in (
      c.in-Ok.ensures.answered.0,
      c.in-Ok.ensures.answered.1,
      (w.0, w.1, (w.2.0, sym (c.as_bytes.ensures ∙ c.in-Ok.ensures.answered.2) ∙ w.2.1, w.2.2)),
    )
