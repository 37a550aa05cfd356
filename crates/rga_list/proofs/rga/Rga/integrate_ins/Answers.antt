-- An insertion stands where the walk ends.
use Rattle.std.proofs.Common.{◌≡◌, ◌∙◌, ◌-◌, List, ap, subst, sym}
use Rattle.rga_list.specs.declared.links.Node.{Node}
use Rattle.rga_list.specs.Entries.{LinkedElements, Entry, behind}
use Rattle.rga_list.specs.Internal.Links.{Ends, Walked, following}
use Rattle.rga_list.proofs.Put.{ends}
use Rattle.rga_list.proofs.Integrated.{parent-within, walk-ended}
use Rattle.rga_list.proofs.rga.Rga.integrate_ins.Goals as goal
use Rattle.rga_list.proofs.rga.Rga.integrate_ins.Goals.{In_ok-elem}

pub after-at-requires : goal.after-at-requires
after-at-requires c = rw c.as_slice.ensures.value
    (parent-within c.self.inside.nodes.items c.self.inside.first c.self.inside.tables c.args.parent c.in_ok-before.before
    c.args.self.now.entries c.self.invariant.0 (ap (λ (r : LinkedElements). r.entries) c.self.view_is) c.in_ok-before.ensures.elem)

pub walk-last-requires : goal.walk-last-requires
walk-last-requires c =
    let follows : c.after-at.result ≡ following c.self.inside.nodes.items c.self.inside.first c.in_ok-before.before =
    subst (λ (v : List Node). c.after-at.result ≡ following v c.self.inside.first c.in_ok-before.before) c.as_slice.ensures.value
    c.after-at.ensures in
    subst (λ (v : List Node). Ends v c.after-at.result) (sym c.as_slice-2.ensures.value)
    (subst (Ends c.self.inside.nodes.items) (sym follows)
    (ends c.self.inside.nodes.items c.self.inside.first c.in_ok-before.before c.self.invariant.0.linked
    (parent-within c.self.inside.nodes.items c.self.inside.first c.self.inside.tables c.args.parent c.in_ok-before.before
    c.args.self.now.entries c.self.invariant.0 (ap (λ (r : LinkedElements). r.entries) c.self.view_is) c.in_ok-before.ensures.elem)))

pub insert_behind-requires-clause-there : goal.insert_behind-requires-clause-there
insert_behind-requires-clause-there c =
    (walk-ended c.self.inside.nodes.items c.self.inside.first c.self.inside.tables c.args.stamp c.args.parent c.in_ok-before.before
    c.after-at.result c.walk-last.result c.args.self.now.entries c.self.invariant.0
    (ap (λ (r : LinkedElements). r.entries) c.self.view_is) c.in_ok-before.ensures.ok c.in_ok-before.ensures.elem
    (subst (λ (v : List Node). c.after-at.result ≡ following v c.self.inside.first c.in_ok-before.before) c.as_slice.ensures.value
    c.after-at.ensures)
    (subst (λ (v : List Node). Walked v c.args.stamp c.in_ok-before.before c.after-at.result c.walk-last.result)
    c.as_slice-2.ensures.value c.walk-last.ensures)).1

-- the walk ended where the insertion stands
ended : (c : In_ok-elem) → c.walk-last.result ≡ behind c.args.parent c.args.stamp c.args.self.now.entries
ended c =
    (walk-ended c.self.inside.nodes.items c.self.inside.first c.self.inside.tables c.args.stamp c.args.parent c.in_ok-before.before
    c.after-at.result c.walk-last.result c.args.self.now.entries c.self.invariant.0
    (ap (λ (r : LinkedElements). r.entries) c.self.view_is) c.in_ok-before.ensures.ok c.in_ok-before.ensures.elem
    (subst (λ (v : List Node). c.after-at.result ≡ following v c.self.inside.first c.in_ok-before.before) c.as_slice.ensures.value
    c.after-at.ensures)
    (subst (λ (v : List Node). Walked v c.args.stamp c.in_ok-before.before c.after-at.result c.walk-last.result)
    c.as_slice-2.ensures.value c.walk-last.ensures)).0

pub returns-clause-list : goal.returns-clause-list
returns-clause-list c =
    let is = c.in_ok-elem.ensures.list in
    let stands = c.in_ok-elem.ensures.placed c.args.parent c.in_ok-before.ensures.ok (ended c) in
    is ∙ ap (λ (es : List Entry). let r : LinkedElements = record { entries = es; reserved = c.args.self.now.reserved - 1 } in r)
    (sym (ap (λ (r : LinkedElements). r.entries) is) ∙ stands)

pub returns-clause-shows : goal.returns-clause-shows
returns-clause-shows c = c.in_ok-elem.ensures.shows c.args.parent c.in_ok-before.ensures.ok (ended c)
