-- The log of no operations is lawful, and no site has a place in it.
use Rattle.std.proofs.Common.{[], ap, arith, sym, subst}
use Rattle.opid.specs.Lawful.{IsLawful}
use Rattle.versions.specs.Document.{Document}
use Rattle.replica.specs.Internal.Numbered.{AllPlaces, AreNumbered}
use Rattle.replica.proofs.Numbers.{AreNumbered-none}
use Rattle.replica.proofs.log.Log.new.Goals as goal

pub invariant_of-result : goal.invariant_of-result
invariant_of-result c = record {
  lawful = subst (λ (v : Document). IsLawful v.log) (sym c.new.ensures) tt;
  numbered = subst (λ (v : Document). AreNumbered v.log c.new-2.result.rows) (sym c.new.ensures)
      (subst (λ (v : AllPlaces). AreNumbered [] v.rows) (sym c.new-2.ensures) AreNumbered-none);
  reserved = omega (arith, ap (λ (v : Document). v.reserved) c.new.ensures, ap (λ (v : AllPlaces). v.reserved) c.new-2.ensures);
}
