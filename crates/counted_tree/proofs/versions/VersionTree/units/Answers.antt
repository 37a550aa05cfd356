use Rattle.std.proofs.Common.{◌≡◌, ◌<◌, ◌≤◌, length, subst, ap, sym, ◌∙◌, arith}
use Rattle.std.proofs.lemmas.List.{length-map}
use Rattle.counted_tree.specs.declared.kept.root.Root.{Root}
use Rattle.counted_tree.specs.Entry.{units}
use Rattle.counted_tree.specs.Versions.{Versions, version_list}
use Rattle.counted_tree.specs.Internal.Roots.{rooted, lists_of, root_at}
use Rattle.counted_tree.proofs.VersionLists.{list_at}
use Rattle.counted_tree.proofs.NextVersions.{root_shows}
use Rattle.counted_tree.proofs.versions.VersionTree.units.Goals as goal

pub returns : goal.returns
returns c =
    let ns = c.self.inside.nodes.nodes in
    let roots = c.self.inside.roots.items in
    let root_is : c.root_of.result ≡ root_at roots c.args.version =
    c.root_of.ensures ∙ ap (λ rs. root_at rs c.args.version) c.as_slice.ensures.value in
    let many : c.args.version < length (lists_of ns roots) =
    subst (λ (v : Versions). c.args.version < length v.lists) (sym c.self.view_is) c.requires in
    let within : c.args.version ≤ length roots = omega (arith, many, length-map roots (rooted ns)) in
    let list : version_list c.args.self.now c.args.version ≡ rooted ns (root_at roots c.args.version) =
    ap (λ (v : Versions). version_list v c.args.version) (sym c.self.view_is) ∙ list_at ns roots c.args.version within in
    let shows = root_shows c.self.inside.nodes roots c.self.inside.reserved c.args.version c.self.invariant.0 within in
    c.items.ensures ∙ ap (λ (r : Root). r.size.units) root_is ∙ shows.1 ∙ ap (λ xs. length (units xs)) (sym list)
