-- One call was made, and its result is the one that is counted.
use Rattle.std.proofs.Common.{◌≡◌, ◌<◌, ℕ, zero, suc, ◌∷◌, [], Ok, Err, refl, arith}
use Rattle.std.specs.declared.io.Error.{Error}
use Rattle.line_engine.specs.Calls.{failed_writes}
use Rattle.line_engine.proofs.counted.Counted.write.Goals as goal

took_some : (E : Type 0) (n : ℕ) → 0 < n → failed_writes {E = E} (Ok n ∷ []) ≡ 0
took_some E zero h = absurd (omega arith)
took_some E (suc n) h = refl

pub returns-in-Ok-eq0-clause-made : goal.returns-in-Ok-eq0-clause-made
returns-in-Ok-eq0-clause-made g c = record {
  results = Ok 0 ∷ [];
  made = (c.write_once.new.self, rw c.in-Ok-eq0.field-0-test at c.in-Ok-eq0.ensures.made, refl);
  counted = omega arith;
}

pub returns-in-Ok-clause-made : goal.returns-in-Ok-clause-made
returns-in-Ok-clause-made g c = record {
  results = Ok c.in-Ok.n ∷ [];
  made = (c.write_once.new.self, c.in-Ok.ensures.made, refl);
  counted = omega (arith, took_some Error c.in-Ok.n (omega arith));
}

pub returns-in-Err-clause-made : goal.returns-in-Err-clause-made
returns-in-Err-clause-made g c = record {
  results = Err c.in-Err.field-0 ∷ [];
  made = (c.write_once.new.self, c.in-Err.ensures.made, refl);
  counted = omega arith;
}
