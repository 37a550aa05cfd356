-- One call was made, and its result is the one that is counted; or none, past the last that is.
use Rattle.std.proofs.Common.{◌∷◌, [], Ok, Err, inl, refl, arith}
use Rattle.line_engine.proofs.counted.Counted.read.Goals as goal

pub returns-in-Ok-clause-made : goal.returns-in-Ok-clause-made
returns-in-Ok-clause-made g c =
    (Ok c.in-Ok.n ∷ [], (c.read_once.new.self, c.in-Ok.ensures.made, refl), omega arith, inl (omega arith))

pub returns-in-Err-clause-made : goal.returns-in-Err-clause-made
returns-in-Err-clause-made g c =
    (Err c.in-Err.field-0 ∷ [], (c.read_once.new.self, c.in-Err.ensures.made, refl), omega arith, inl (omega arith))
