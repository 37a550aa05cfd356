-- The element is linked in behind the other one.
use Rattle.std.proofs.Common.{◌≡◌, ◌∙◌, ◌<◌, ◌≤◌, ◌-◌, ℕ, true, None, List, IfSome, refl, ap, subst, sym, arith, length}
use Rattle.std.proofs.Common.{get_or, set}
use mathlib.Core.Path.{ap₂}
use Rattle.std.specs.List.{AllByRecursion as Each}
use Rattle.rga_list.specs.declared.links.Node.{Node}
use Rattle.rga_list.specs.Entries.{LinkedElements, Entry, elem_before, placed, put_behind, parent_refusal, IsAboveItsSite, AreOfOwn}
use Rattle.rga_list.specs.Internal.SiteIds.{SiteIds}
use Rattle.rga_list.specs.Internal.Links.{order_of, entries_of, ids_at, IsList, following, put_in, first_then}
use Rattle.rga_list.proofs.Ordered.{length-entries, row_same, row-below}
use Rattle.rga_list.proofs.Own.{AreOfOwn-once}
use Rattle.rga_list.proofs.Reserved.{reserved-pushed}
use Rattle.rga_list.proofs.Put.{next_within}
use Rattle.rga_list.proofs.Behind.{placed-behind}
use Rattle.rga_list.proofs.Integrated.{made, inserted}
use Rattle.rga_list.proofs.Shown.{listed-insertion}
use Rattle.rga_list.proofs.rga.Rga.insert_behind.Goals as goal

pub after-next-requires : goal.after-next-requires
after-next-requires c =
    let shows : entries_of c.self.inside.nodes.items c.self.inside.first ≡ c.args.self.now.entries =
    ap (λ (r : LinkedElements). r.entries) c.self.view_is in
    let size : length c.self.inside.nodes.items ≡ length c.args.self.now.entries =
    sym (length-entries c.self.inside.nodes.items c.self.inside.first c.self.invariant.0.linked) ∙ ap length shows in
    rw c.as_slice.ensures.value (subst (λ n. IfSome c.args.before (λ k. k < n)) (sym size) c.requires.there)

pub push-requires : goal.push-requires
push-requires c =
    let shows : entries_of c.self.inside.nodes.items c.self.inside.first ≡ c.args.self.now.entries =
    ap (λ (r : LinkedElements). r.entries) c.self.view_is in
    let place : c.from-site.result ≡ c.args.stamp.site = c.from-site.ensures ∙ c.number.ensures.value in
    let row : get_or c.self.inside.tables c.from-site.result c.index-self-site.result ≡ ids_at c.self.inside.tables c.args.stamp.site =
    row_same c.self.inside.tables c.from-site.result c.args.stamp.site c.index-self-site.result place
    (omega (arith, c.from-site.ensures, c.number.ensures.range, c.self.invariant.0.width)) in
    subst (λ (r : SiteIds). Each (λ id. id.0 < c.args.stamp.sum) r.ids) (sym row)
    (row-below c.self.inside.nodes.items c.self.inside.first c.self.inside.tables c.args.stamp c.self.invariant.0
    (subst (λ v. IsAboveItsSite v c.args.stamp) (sym shows) c.requires.above))

pub link-requires-clause-next : goal.link-requires-clause-next
link-requires-clause-next c = λ i e.
    let size : length c.self.inside.nodes.items ≡ length c.args.self.now.entries =
    sym (length-entries c.self.inside.nodes.items c.self.inside.first c.self.invariant.0.linked)
    ∙ ap (λ (r : LinkedElements). length r.entries) c.self.view_is in
    let within : i < length c.self.inside.nodes.items =
    next_within c.self.inside.nodes.items c.self.inside.first c.args.before c.self.invariant.0.linked
    (subst (λ n. IfSome c.args.before (λ k. k < n)) (sym size) c.requires.there) i
    (sym (subst (λ (v : List Node). c.after-next.result ≡ following v c.self.inside.first c.args.before) c.as_slice.ensures.value
    c.after-next.ensures) ∙ e) in
    omega (arith, size, within, c.requires.few)

-- what holds once the element is linked
after : (c : goal.After-self-2-1) → IsList c.link.new.nodes.items c.link.new.first
    (set c.self.inside.tables c.from-site.result c.push.new.self)
    × (entries_of c.link.new.nodes.items c.link.new.first ≡ put_behind c.args.before
    (record { elem = length c.args.self.now.entries; stamp = c.args.stamp; ch = c.args.ch; shown = true }) c.args.self.now.entries)
    × (c.args.before ≡ elem_before c.len-elem.result None (entries_of c.link.new.nodes.items c.link.new.first))
after c =
    let shows : entries_of c.self.inside.nodes.items c.self.inside.first ≡ c.args.self.now.entries =
    ap (λ (r : LinkedElements). r.entries) c.self.view_is in
    let same : length c.self.inside.nodes.items ≡ length c.args.self.now.entries =
    sym (length-entries c.self.inside.nodes.items c.self.inside.first c.self.invariant.0.linked) ∙ ap length shows in
    let few : length c.self.inside.nodes.items < 131072 = omega (arith, same, c.requires.few) in
    let size : c.len-elem.result ≡ length c.self.inside.nodes.items = omega (arith, c.len-elem.ensures, c.reserve.ensures.len) in
    inserted c.self.inside.nodes.items c.link.new.nodes.items c.self.inside.first c.link.new.first c.self.inside.tables c.from-site.result
    c.index-self-site.result (get_or c.self.inside.tables c.from-site.result c.index-self-site.result) c.push.new.self
    c.args.stamp c.args.ch c.args.before c.after-next.result c.len-elem.result
    c.args.self.now.entries
    c.self.invariant.0 shows few c.requires.above
    (subst (λ n. IfSome c.args.before (λ k. k < n)) (sym same) c.requires.there)
    (subst (λ (v : List Node). c.after-next.result ≡ following v c.self.inside.first c.args.before) c.as_slice.ensures.value
    c.after-next.ensures)
    (c.from-site.ensures ∙ c.number.ensures.value)
    (omega (arith, c.from-site.ensures, c.number.ensures.range))
    refl size
    (ap (λ (r : SiteIds). r.ids) c.in_ok-push.ensures.ok)
    (c.link.ensures.nodes ∙ ap (λ (v : List Node). put_in v (made c.args.stamp c.args.ch c.after-next.result) c.args.before)
    c.reserve.ensures.items)
    (c.link.ensures.first ∙ ap (λ (v : List Node). first_then v c.self.inside.first c.args.before) c.reserve.ensures.items)

pub invariant_of-self-2 : goal.invariant_of-self-2
invariant_of-self-2 c =
    let width : c.from-site.result < length c.self.inside.tables =
    omega (arith, c.from-site.ensures, c.number.ensures.range, c.self.invariant.0.width) in
    let ahead : c.saturating_sub-self-inside-2.result ≡ c.self.inside.ahead - 1 = c.saturating_sub-self-inside-2.ensures in
    let row : c.push.new.self.reserved ≡ (ids_at c.self.inside.tables c.from-site.result).reserved - 1 =
    ap (λ (r : SiteIds). r.reserved) c.in_ok-push.ensures.ok
    ∙ ap (λ (r : SiteIds). r.reserved - 1) (row_same c.self.inside.tables c.from-site.result c.from-site.result c.index-self-site.result
    refl width) in (
      (after c).0,
      record {
        elements = omega (
          arith,
          ahead,
          c.link.ensures.len,
          c.link.ensures.capacity,
          c.reserve.ensures.len,
          c.in_ok-reserve.ensures.ok,
          c.reserve.ensures.capacity,
          c.self.invariant.1.elements,
        );
        ids = λ k l. subst (λ n. n ≤ (ids_at (set c.self.inside.tables c.from-site.result c.push.new.self) k).reserved) (sym ahead)
            (reserved-pushed c.self.inside.tables c.from-site.result k c.self.inside.ahead
            c.push.new.self width row c.self.invariant.1.ids l
            (omega (arith, c.from-site.ensures, c.number.ensures.range)));
      },
      omega (arith, ahead, c.saturating_sub-self-inside.ensures, c.self.invariant.2),
    )

pub returns-clause-list : goal.returns-clause-list
returns-clause-list c =
    ap₂ (λ (e : List Entry) (n : ℕ). let r : LinkedElements = record { entries = e; reserved = n } in r)
    (after c).1
    (c.saturating_sub-self-inside.ensures ∙ ap (λ (r : LinkedElements). r.reserved - 1) c.self.view_is)

pub returns-clause-before : goal.returns-clause-before
returns-clause-before c = (after c).2

-- each element stands there once
own : (c : goal.After-self-2-1) → AreOfOwn c.args.self.now.entries
own c = subst (λ (r : LinkedElements). AreOfOwn r.entries) c.self.view_is
    (AreOfOwn-once c.self.inside.nodes.items (order_of c.self.inside.nodes.items c.self.inside.first) c.self.invariant.0.linked.once)

pub returns-clause-placed : goal.returns-clause-placed
returns-clause-placed c parent accepted ends =
    let x : Entry = record { elem = length c.args.self.now.entries; stamp = c.args.stamp; ch = c.args.ch; shown = true } in
    (after c).1 ∙ ap (λ o. put_behind o x c.args.self.now.entries) ends
    ∙ sym (placed-behind parent x c.args.self.now.entries (own c) accepted)

pub returns-clause-shows : goal.returns-clause-shows
returns-clause-shows c parent accepted ends ops x sound stamp kind is =
    let list = listed-insertion ops x c.args.stamp parent c.args.ch sound stamp kind
    (subst (λ v. IsAboveItsSite v c.args.stamp) is c.requires.above)
    (subst (λ v. parent_refusal v parent c.args.stamp ≡ None) is accepted) in (
      list.0,
      returns-clause-placed c parent accepted ends
          ∙ ap (λ (v : List Entry). placed parent (record
          { elem = length v; stamp = c.args.stamp; ch = c.args.ch; shown = true }) v) is
          ∙ list.1,
    )

pub returns-clause-grown : goal.returns-clause-grown
returns-clause-grown c =
    let new : length (entries_of c.link.new.nodes.items c.link.new.first) ≡ length c.link.new.nodes.items =
    length-entries c.link.new.nodes.items c.link.new.first (after c).0.linked in
    let old : length c.args.self.now.entries ≡ length c.self.inside.nodes.items =
    sym (ap (λ (r : LinkedElements). length r.entries) c.self.view_is)
    ∙ length-entries c.self.inside.nodes.items c.self.inside.first c.self.invariant.0.linked in
    omega (arith, new, old, c.link.ensures.len, c.reserve.ensures.len)
