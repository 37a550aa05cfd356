-- What holds of every list holds of the empty one.
use Rattle.std.proofs.Common.{◌≡◌, ◌<◌, ℕ, [], None, ap, sym, subst, arith, rules, inl, inr}
use Rattle.std.proofs.lemmas.Bool.{cases_lt}
use Rattle.std.proofs.lemmas.List.{get_or_past}
use Rattle.rga_list.specs.Internal.SiteIds.{SiteIds}
use Rattle.rga_list.specs.Internal.Links.{ids_at, IsList}
use Rattle.rga_list.proofs.Reserved.{IsList-none}
use Rattle.rga_list.proofs.rga.Rga.new.Goals as goal

pub invariant_of-result : goal.invariant_of-result
invariant_of-result c =
    let blank : SiteIds = record { ids = []; reserved = 0 } in
    let made : (k : ℕ) → k < 32 → ids_at c.from_fn.result k ≡ blank =
    λ k l. (let h = c.from_fn.ensures.items.at k blank l in search rules) in
    let each : (k : ℕ) → ids_at c.from_fn.result k ≡ blank =
    λ k. elim (cases_lt k 32) [
      | inl l ↦ made k l
      | inr l ↦ get_or_past c.from_fn.result k blank
          (omega (arith, c.from_fn.ensures.items.long))
    ] in (
      subst (λ v. IsList v None c.from_fn.result) (sym c.new.ensures.items)
          (IsList-none c.from_fn.result c.from_fn.ensures.items.long (λ k. ap (λ (r : SiteIds). r.ids) (each k))),
      record { elements = omega arith; ids = λ k l. omega arith },
      omega arith,
    )
