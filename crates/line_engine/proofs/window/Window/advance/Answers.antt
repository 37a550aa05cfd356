-- The bytes behind the first ones are held.
use Rattle.std.proofs.Common.{◌≡◌, ◌≤◌, ◌+◌, length, drop, arith, sym, ap, ◌∙◌}
use Rattle.line_engine.proofs.Held.{part_advanced, length-part}
use Rattle.line_engine.proofs.window.Window.advance.Goals as goal

pub returns : goal.returns
returns c =
    let fits : c.self.inside.start + c.self.inside.len ≤ length c.self.inside.buf.items = omega arith in
    let len : length c.args.self.now ≡ c.self.inside.len = ap length (sym c.self.view_is) ∙ length-part _ _ _ fits in
    let n : c.args.n ≤ c.self.inside.len = omega arith in
    part_advanced _ _ _ _ n fits ∙ ap (drop c.args.n) c.self.view_is
