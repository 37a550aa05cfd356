-- The number is that of its format.
use Rattle.std.proofs.Common.{ℕ, refl, subst, arith}
use Rattle.serde_json.specs.Data.{number, unsigned}
use Rattle.json_bytes.specs.Plain.{Comes}
use Rattle.snapshot.proofs.spelled.next_format.Goals as goal

pub returns-in-1 : goal.returns-in-1
returns-in-1 c = record {
  n = 1;
  first =
      subst (λ (n : ℕ). Comes 1 c.args.reader.now (number (unsigned n)) c.next_number.new.self) c.in-1.is
      c.in_ok-next_number.ensures.0;
  small = omega arith;
  is = refl;
}

pub returns-in-2 : goal.returns-in-2
returns-in-2 c = record {
  n = 2;
  first =
      subst (λ (n : ℕ). Comes 1 c.args.reader.now (number (unsigned n)) c.next_number.new.self) c.in-2.is
      c.in_ok-next_number.ensures.0;
  small = omega arith;
  is = refl;
}
