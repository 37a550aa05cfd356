-- Each operation's place goes into its site's row.
use Rattle.std.proofs.Common.{◌≡◌, ◌∙◌, ◌<◌, ◌+◌, ◌++◌, [], ◌∷◌, take, length, ap, sym, subst, arith}
use Rattle.std.specs.Prelude.{List}
use Rattle.opid.specs.Operations.{Operation}
use Rattle.std.proofs.lemmas.List.{take_more, length-take-le}
use Rattle.std.proofs.lemmas.Option.{get_or_from_slice_get}
use Rattle.replica.specs.Internal.Numbered.{AllPlaces, AreNumbered}
use Rattle.versions.proofs.Left.{left_after}
use Rattle.replica.proofs.Numbers.{AreNumbered-push, AreNumbered-none}
use Rattle.replica.proofs.log.places_of.Goals as goal

pub told-init : goal.told-init
told-init c = record {
  numbered = subst (λ (v : AllPlaces). AreNumbered [] v.rows) (sym c.new-places.ensures) AreNumbered-none;
  walk = c.ops_from-rest.ensures.left;
}

pub told-preserved : goal.told-preserved
told-preserved c =
    let log = c.args.doc.now.log in
    let i = c.told.place in
    let x = c.next_op-op.result in
    let within : i < length log = omega (arith, c.version-place-end.ensures.value, c.told-test.true) in
    let here = left_after log i x c.next_op-op.new.self.left (sym c.told.invariant.walk ∙ c.next_op-op.ensures.value) in
    let next : take (i + 1) log ≡ take i log ++ x ∷ [] =
    take_more log i x within ∙ ap (λ y. take i log ++ y ∷ []) (get_or_from_slice_get log i x x here.0) in
    let rows : AreNumbered (take i log) c.reserve.new.self.rows =
    subst (λ (r : AllPlaces). AreNumbered (take i log) r.rows) (sym c.in_ok-reserve.ensures.ok) c.told.invariant.numbered in
    record {
      numbered = subst (λ (ops : List Operation). AreNumbered ops c.push.new.self.rows) (sym next)
          (AreNumbered-push (take i log) c.reserve.new.self.rows c.push.new.self.rows x c.site.result i rows c.site.ensures.value
          (omega (arith, c.site.ensures.value, c.site.ensures.kept.site))
          (sym (length-take-le i log (omega (arith, within)))) c.push.ensures.rows);
      walk = here.1;
    }
