use Rattle.std.proofs.Common.{◌≡◌, length, ap, sym, ◌∙◌, subst, arith}
use Rattle.std.specs.Option.{IfSome}
use Rattle.counted_tree.specs.Digits.{digits}
use Rattle.counted_tree.specs.Changes.{Lists}
use Rattle.counted_tree.specs.Greater.{last_greater}
use Rattle.counted_tree.specs.Internal.Arena.{list_of}
use Rattle.counted_tree.specs.Versions.{Versions, newest_list}
use Rattle.counted_tree.specs.Internal.Roots.{rooted, newest_root}
use Rattle.counted_tree.proofs.VersionLists.{last_list}
use Rattle.counted_tree.proofs.versions.VersionTree.last_greater.Goals as goal

pub returns-clause-last : goal.returns-clause-last
returns-clause-last c =
    let ns = c.self.inside.nodes.nodes in
    let roots = c.self.inside.roots.items in
    let root_is : c.last_root-root.result ≡ newest_root roots = c.last_root-root.ensures ∙ ap newest_root c.as_slice.ensures.value in
    let newest : newest_list c.args.self.now ≡ list_of ns c.last_root-root.result.link =
    ap (λ (v : Versions). newest_list v) (sym c.self.view_is) ∙ last_list ns roots ∙ ap (rooted ns) (sym root_is) in
    c.last_greater_in.ensures.last ∙ ap (last_greater c.args.before c.args.key) (sym newest)

pub last_greater_in-requires-clause-there : goal.last_greater_in-requires-clause-there
last_greater_in-requires-clause-there c =
    let ns = c.self.inside.nodes.nodes in
    let roots = c.self.inside.roots.items in
    let root_is : c.last_root-root.result ≡ newest_root roots = c.last_root-root.ensures ∙ ap newest_root c.as_slice.ensures.value in
    let newest : newest_list c.args.self.now ≡ list_of ns c.last_root-root.result.link =
    ap (λ (v : Versions). newest_list v) (sym c.self.view_is) ∙ last_list ns roots ∙ ap (rooted ns) (sym root_is) in
    subst (λ xs. IfSome c.args.before (λ e. Lists e xs)) newest c.requires.there

pub returns-clause-cost : goal.returns-clause-cost
returns-clause-cost c =
    let ns = c.self.inside.nodes.nodes in
    let roots = c.self.inside.roots.items in
    let root_is : c.last_root-root.result ≡ newest_root roots = c.last_root-root.ensures ∙ ap newest_root c.as_slice.ensures.value in
    let newest : newest_list c.args.self.now ≡ list_of ns c.last_root-root.result.link =
    ap (λ (v : Versions). newest_list v) (sym c.self.view_is) ∙ last_list ns roots ∙ ap (rooted ns) (sym root_is) in
    omega (arith, c.last_greater_in.ensures.cost, ap (λ xs. digits (length xs)) newest)

pub returns-clause-counted : goal.returns-clause-counted
returns-clause-counted c =
    let ns = c.self.inside.nodes.nodes in
    let roots = c.self.inside.roots.items in
    let root_is : c.last_root-root.result ≡ newest_root roots = c.last_root-root.ensures ∙ ap newest_root c.as_slice.ensures.value in
    let newest : newest_list c.args.self.now ≡ list_of ns c.last_root-root.result.link =
    ap (λ (v : Versions). newest_list v) (sym c.self.view_is) ∙ last_list ns roots ∙ ap (rooted ns) (sym root_is) in
    λ some. c.last_greater_in.ensures.counted (omega (arith, some, ap length newest))
