-- The last one, and else the search by halves, is what is found along the row.
use Rattle.std.proofs.Common.{◌≡◌, ◌∙◌, ◌<◌, ◌-◌, ℕ, Some, None, sym, subst, ap, arith, get_or, length, rules}
use Rattle.std.proofs.lemmas.List.Sorted.{answers_always}
use Rattle.opid.specs.Internal.RisingPairs.{AreRising}
use Rattle.rga_list.specs.Internal.SiteIds.{SiteIds, find_id}
use Rattle.rga_list.proofs.Identifiers.{find_id-at, halves-found, halves-none}
use Rattle.rga_list.proofs.table.SiteTable.find.Goals as goal

pub returns-then-last-sum : goal.returns-then-last-sum
returns-then-last-sum c =
    let here : c.as_slice-ids.result.now ≡ c.args.self.now.ids =
    c.as_slice-ids.ensures.value ∙ ap (λ (r : SiteIds). r.ids) c.self.view_is in
    let rising : AreRising c.as_slice-ids.result.now = subst AreRising (sym c.as_slice-ids.ensures.value) c.self.invariant.0 in
    let some : 0 < length c.as_slice-ids.result.now = search rules in
    let last : ℕ = length c.as_slice-ids.result.now - 1 in
    subst (λ v. Some (get_or c.as_slice-ids.result.now last (0, 0)).1 ≡ find_id c.args.sum v) here
    (sym (find_id-at c.as_slice-ids.result.now last c.args.sum (0, 0) rising (omega (arith, some)) c.if-last-sum.true))

pub returns-in-Ok : goal.returns-in-Ok
returns-in-Ok c =
    let here : c.as_slice-ids.result.now ≡ c.args.self.now.ids =
    c.as_slice-ids.ensures.value ∙ ap (λ (r : SiteIds). r.ids) c.self.view_is in
    let rising : AreRising c.as_slice-ids.result.now = subst AreRising (sym c.as_slice-ids.ensures.value) c.self.invariant.0 in
    subst (λ v. Some (get_or c.as_slice-ids.result.now c.in-Ok.place (0, 0)).1 ≡ find_id c.args.sum v) here
    (halves-found c.as_slice-ids.result.now c.in-Ok.place c.args.sum (0, 0) rising c.in-Ok.ensures.bound
    (c.in-Ok.ensures.position (λ (i : ℕ × ℕ). i.0) (answers_always _ _ _ (λ f a r g called. search rules))))

pub returns-in-Err : goal.returns-in-Err
returns-in-Err c =
    let here : c.as_slice-ids.result.now ≡ c.args.self.now.ids =
    c.as_slice-ids.ensures.value ∙ ap (λ (r : SiteIds). r.ids) c.self.view_is in
    let rising : AreRising c.as_slice-ids.result.now = subst AreRising (sym c.as_slice-ids.ensures.value) c.self.invariant.0 in
    subst (λ v. None ≡ find_id c.args.sum v) here
    (halves-none c.as_slice-ids.result.now c.in-Err.field-0 c.args.sum rising
    (c.in-Err.ensures.position (λ (i : ℕ × ℕ). i.0) (answers_always _ _ _ (λ f a r g called. search rules))))
