use Rattle.std.proofs.Common.{◌≡◌, length, ap, sym, ◌∙◌}
use Rattle.counted_tree.specs.Entry.{visible, units}
use Rattle.counted_tree.specs.Changes.{before}
use Rattle.counted_tree.specs.Internal.Arena.{list_of}
use Rattle.counted_tree.specs.Versions.{Versions, newest_list}
use Rattle.counted_tree.specs.Internal.Roots.{rooted, newest_root}
use Rattle.counted_tree.proofs.VersionLists.{last_list}
use Rattle.counted_tree.proofs.versions.VersionTree.ranks.Goals as goal

pub returns-clause-shown : goal.returns-clause-shown
returns-clause-shown c =
    let ns = c.self.inside.nodes.nodes in
    let roots = c.self.inside.roots.items in
    let root_is : c.last_root-root.result ≡ newest_root roots = c.last_root-root.ensures ∙ ap newest_root c.as_slice.ensures.value in
    let newest : newest_list c.args.self.now ≡ list_of ns c.last_root-root.result.link =
    ap (λ (v : Versions). newest_list v) (sym c.self.view_is) ∙ last_list ns roots ∙ ap (rooted ns) (sym root_is) in
    c.rank_in.ensures.size.0 ∙ ap (λ xs. length (visible (before c.args.elem xs))) (sym newest)

pub returns-clause-units : goal.returns-clause-units
returns-clause-units c =
    let ns = c.self.inside.nodes.nodes in
    let roots = c.self.inside.roots.items in
    let root_is : c.last_root-root.result ≡ newest_root roots = c.last_root-root.ensures ∙ ap newest_root c.as_slice.ensures.value in
    let newest : newest_list c.args.self.now ≡ list_of ns c.last_root-root.result.link =
    ap (λ (v : Versions). newest_list v) (sym c.self.view_is) ∙ last_list ns roots ∙ ap (rooted ns) (sym root_is) in
    c.rank_in.ensures.size.1 ∙ ap (λ xs. length (units (before c.args.elem xs))) (sym newest)
