-- The read is one for a block.
use Rattle.std.proofs.Common.{ℕ, List, ◌+◌, ◌≤◌, ◌-◌, length, take, drop, arith, length-drop}
use Rattle.std.proofs.lemmas.List.{length-take-le}
use Rattle.line_engine.proofs.Making.{reads_once}
use Rattle.line_engine.proofs.window.read_behind.Goals as goal

free : (buf : List ℕ) (at : ℕ) → at + 65536 ≤ length buf → 65536 ≤ length (take (length buf - at) (drop at buf))
free buf at h = omega (arith, h, length-drop at buf, length-take-le (length buf - at) (drop at buf) (omega (arith, length-drop at buf)))

pub returns-clause-made : goal.returns-clause-made
returns-clause-made g c =
    let buf = c.args.buf.now in
    reads_once g.R.Source.reads (length (take (length buf - c.args.at) (drop c.args.at buf))) (free buf c.args.at c.requires.free)
    c.args.input.now.inner c.read.new.self.inner c.args.input.now.calls c.args.input.now.failures c.read.new.self.calls
    c.read.new.self.failures c.read.ensures.made
