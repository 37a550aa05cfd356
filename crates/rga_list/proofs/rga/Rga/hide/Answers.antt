-- A deletion hides the element that the table names for its stamp.
use Rattle.std.proofs.Common.{◌≡◌, ◌∙◌, ℕ, true, List, Some, ap, subst, sym, set, length, arith}
use mathlib.Core.Path.{ap₂}
use Rattle.opid.specs.declared.stamp.Stamp.{Stamp}
use Rattle.rga_list.specs.Entries.{LinkedElements, Entry, has_stamp, elem_of, hidden, is_shown}
use Rattle.rga_list.specs.declared.links.Node.{Node}
use Rattle.rga_list.specs.Internal.Links.{entries_of, node_at, IsList}
use Rattle.rga_list.proofs.Ordered.{has_stamp-some, length-entries, named-elem_of}
use Rattle.rga_list.proofs.Deleted.{deleted}
use Rattle.rga_list.proofs.Shown.{listed-deletion}
use Rattle.rga_list.proofs.rga.Rga.hide.Goals as goal

pub index_mut-node-requires : goal.index_mut-node-requires
index_mut-node-requires c =
    omega (
      arith,
      c.requires,
      ap (λ (r : LinkedElements). length r.entries) c.self.view_is,
      length-entries c.self.inside.nodes.items c.self.inside.first c.self.invariant.0.linked,
    )

-- the element's own stamp names it
names : (c : goal.After-self-1) → elem_of (node_at c.self.inside.nodes.items c.args.elem).stamp c.args.self.now.entries ≡ Some c.args.elem
names c =
    let nodes = c.self.inside.nodes.items in
    let s = (node_at nodes c.args.elem).stamp in
    ap (λ (r : LinkedElements). elem_of s r.entries) (sym c.self.view_is)
    ∙ sym (named-elem_of nodes c.self.inside.first c.self.inside.tables s c.self.invariant.0)
    ∙ c.self.invariant.0.are_named.each c.args.elem (omega (
      arith,
      c.requires,
      ap (λ (r : LinkedElements). length r.entries) c.self.view_is,
      length-entries nodes c.self.inside.first c.self.invariant.0.linked,
    ))

-- what holds once the element is hidden, by a stamp that names it
after : (c : goal.After-self-1) → (target : Stamp) → elem_of target c.args.self.now.entries ≡ Some c.args.elem
    → IsList (set c.self.inside.nodes.items c.args.elem c.hide-shown.new.self) c.self.inside.first c.self.inside.tables
    × (entries_of (set c.self.inside.nodes.items c.args.elem c.hide-shown.new.self) c.self.inside.first
    ≡ hidden target c.args.self.now.entries)
    × (c.hide-shown.result ≡ is_shown target c.args.self.now.entries)
after c target e =
    let made = deleted c.self.inside.nodes.items c.self.inside.first c.self.inside.tables target c.args.elem
    c.index_mut-node.result.now c.args.self.now.entries
    c.self.invariant.0 (ap (λ (r : LinkedElements). r.entries) c.self.view_is)
    e c.index_mut-node.ensures.value in (
      subst (λ (n : Node). IsList (set c.self.inside.nodes.items c.args.elem n) c.self.inside.first c.self.inside.tables)
          (sym c.hide-shown.ensures.node) made.0,
      ap (λ (n : Node). entries_of (set c.self.inside.nodes.items c.args.elem n) c.self.inside.first) c.hide-shown.ensures.node ∙ made.1,
      c.hide-shown.ensures.was ∙ made.2,
    )

pub invariant_of-self : goal.invariant_of-self
invariant_of-self c = ((after c _ (names c)).0, c.self.invariant.1, c.self.invariant.2)

pub returns-clause-stamp : goal.returns-clause-stamp
returns-clause-stamp c = (_, names c)

pub returns-clause-list : goal.returns-clause-list
returns-clause-list c target e =
    ap₂ (λ (v : List Entry) (n : ℕ). let r : LinkedElements = record { entries = v; reserved = n } in r) (after c target e).1
    (ap (λ (r : LinkedElements). r.reserved) c.self.view_is)

pub returns-clause-shown : goal.returns-clause-shown
returns-clause-shown c target e = (after c target e).2

pub returns-clause-shows : goal.returns-clause-shows
returns-clause-shows c target e ops x sound kind is =
    let there : has_stamp c.args.self.now.entries target ≡ true = has_stamp-some target c.args.self.now.entries c.args.elem e in
    let list = listed-deletion ops x target sound kind (subst (λ v. has_stamp v target ≡ true) is there) in
    (list.0, (after c target e).1 ∙ ap (hidden target) is ∙ list.1)
