use Rattle.std.proofs.Common.{◌≡◌, ℕ, List, ◌+◌, ◌*◌, ◌<◌, ◌≤◌, length, subst, ap, sym, ◌∙◌, arith}
use Rattle.std.proofs.Math.Nat.{mul-le-mul_left}
use Rattle.std.proofs.lemmas.List.{length-map}
use Rattle.counted_tree.specs.declared.entry.Entry.{Entry}
use Rattle.counted_tree.specs.declared.kept.root.Root.{Root}
use Rattle.counted_tree.specs.Digits.{digits}
use Rattle.counted_tree.specs.Entry.{visible}
use Rattle.counted_tree.specs.Internal.Arena.{IsLinkBelow, list_of, linked, trees}
use Rattle.counted_tree.specs.Internal.Tree.{height}
use Rattle.counted_tree.specs.Versions.{Versions, version_list}
use Rattle.counted_tree.specs.Internal.Roots.{rooted, lists_of, root_at}
use Rattle.counted_tree.proofs.EarlierTrees.{linked_balanced}
use Rattle.counted_tree.proofs.Heights.{height_bound}
use Rattle.counted_tree.proofs.VersionLists.{list_at, root_below}
use Rattle.counted_tree.proofs.NextVersions.{root_shows}
use Rattle.counted_tree.proofs.versions.VersionTree.push_shown.Goals as goal

pub push_shown_in-requires-clause-shown : goal.push_shown_in-requires-clause-shown
push_shown_in-requires-clause-shown c =
    let ns = c.self.inside.nodes.nodes in
    let roots = c.self.inside.roots.items in
    let top = c.root_of-root.result.link in
    let root_is : c.root_of-root.result ≡ root_at roots c.args.version =
    c.root_of-root.ensures ∙ ap (λ rs. root_at rs c.args.version) c.as_slice.ensures.value in
    let many : c.args.version < length (lists_of ns roots) =
    subst (λ (v : Versions). c.args.version < length v.lists) (sym c.self.view_is) c.requires in
    let within : c.args.version ≤ length roots = omega (arith, many, length-map roots (rooted ns)) in
    let top_is : top ≡ (root_at roots c.args.version).link = ap (λ (r : Root). r.link) root_is in
    let shows = root_shows c.self.inside.nodes roots c.self.inside.reserved c.args.version c.self.invariant.0 within in
    let shown : c.root_of-root.result.size.shown ≡ length (visible (list_of ns top)) =
    ap (λ (r : Root). r.size.shown) root_is ∙ shows.0 ∙ ap (λ l. length (visible (list_of ns l))) (sym top_is) in
    shown

pub returns-clause-few : goal.returns-clause-few
returns-clause-few c =
    let ns = c.self.inside.nodes.nodes in
    let roots = c.self.inside.roots.items in
    let top = c.root_of-root.result.link in
    let root_is : c.root_of-root.result ≡ root_at roots c.args.version =
    c.root_of-root.ensures ∙ ap (λ rs. root_at rs c.args.version) c.as_slice.ensures.value in
    let many : c.args.version < length (lists_of ns roots) =
    subst (λ (v : Versions). c.args.version < length v.lists) (sym c.self.view_is) c.requires in
    let within : c.args.version ≤ length roots = omega (arith, many, length-map roots (rooted ns)) in
    let top_is : top ≡ (root_at roots c.args.version).link = ap (λ (r : Root). r.link) root_is in
    let list : version_list c.args.self.now c.args.version ≡ list_of ns top =
    ap (λ (v : Versions). version_list v c.args.version) (sym c.self.view_is) ∙ list_at ns roots c.args.version within
    ∙ ap (list_of ns) (sym top_is) in
    let shows = root_shows c.self.inside.nodes roots c.self.inside.reserved c.args.version c.self.invariant.0 within in
    let shown : c.root_of-root.result.size.shown ≡ length (visible (list_of ns top)) =
    ap (λ (r : Root). r.size.shown) root_is ∙ shows.0 ∙ ap (λ l. length (visible (list_of ns l))) (sym top_is) in
    let link : IsLinkBelow (length ns) top =
    subst (IsLinkBelow (length ns)) (sym top_is) (root_below ns roots c.args.version c.self.invariant.0.links within) in
    let high = height_bound (linked (trees ns) top) (linked_balanced ns top c.self.invariant.0.sound link) in
    let s = length (visible (list_of ns top)) in
    let few : c.push_shown_in.new.steps ≤ c.args.steps.now + s * height (linked (trees ns) top) =
    subst (λ (k : ℕ). c.push_shown_in.new.steps ≤ c.args.steps.now + k * height (linked (trees ns) top)) shown
    c.push_shown_in.ensures.few in
    let bound : s * height (linked (trees ns) top) ≤ s * (2 * digits (length (list_of ns top))) = mul-le-mul_left s (omega (arith, high)) in
    subst (λ (xs : List Entry). c.push_shown_in.new.steps ≤ c.args.steps.now + length (visible xs) * (2 * digits (length xs)))
    (sym list) (omega (arith, few, bound))

pub returns-clause-counted : goal.returns-clause-counted
returns-clause-counted c =
    let ns = c.self.inside.nodes.nodes in
    let roots = c.self.inside.roots.items in
    let top = c.root_of-root.result.link in
    let root_is : c.root_of-root.result ≡ root_at roots c.args.version =
    c.root_of-root.ensures ∙ ap (λ rs. root_at rs c.args.version) c.as_slice.ensures.value in
    let many : c.args.version < length (lists_of ns roots) =
    subst (λ (v : Versions). c.args.version < length v.lists) (sym c.self.view_is) c.requires in
    let within : c.args.version ≤ length roots = omega (arith, many, length-map roots (rooted ns)) in
    let top_is : top ≡ (root_at roots c.args.version).link = ap (λ (r : Root). r.link) root_is in
    let list : version_list c.args.self.now c.args.version ≡ list_of ns top =
    ap (λ (v : Versions). version_list v c.args.version) (sym c.self.view_is) ∙ list_at ns roots c.args.version within
    ∙ ap (list_of ns) (sym top_is) in
    let shows = root_shows c.self.inside.nodes roots c.self.inside.reserved c.args.version c.self.invariant.0 within in
    let shown : c.root_of-root.result.size.shown ≡ length (visible (list_of ns top)) =
    ap (λ (r : Root). r.size.shown) root_is ∙ shows.0 ∙ ap (λ l. length (visible (list_of ns l))) (sym top_is) in
    λ some. c.push_shown_in.ensures.counted (omega (arith, shown, some, ap (λ xs. length (visible xs)) list))
