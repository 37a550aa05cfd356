use Rattle.std.proofs.Common.{◌≡◌, ◌<◌, ℕ, length, subst, ap, sym, ◌∙◌, arith}
use Rattle.std.proofs.lemmas.List.{length-map}
use Rattle.std.specs.Prelude.{option_map}
use Rattle.std.specs.List.{slice_get}
use Rattle.counted_tree.specs.Digits.{digits}
use Rattle.counted_tree.specs.Entry.{visible}
use Rattle.counted_tree.specs.Internal.Arena.{list_of}
use Rattle.counted_tree.specs.Versions.{Versions, version_list}
use Rattle.counted_tree.specs.Internal.Roots.{rooted, lists_of, root_at}
use Rattle.counted_tree.proofs.Counts.{find-visible}
use Rattle.counted_tree.proofs.VersionLists.{list_at}
use Rattle.counted_tree.proofs.versions.VersionTree.find.Goals as goal

pub returns-in_err-elem-clause-found : goal.returns-in_err-elem-clause-found
returns-in_err-elem-clause-found c =
    let ns = c.self.inside.nodes.nodes in
    let roots = c.self.inside.roots.items in
    let root_is : c.root_of-root.result ≡ root_at roots c.args.version =
    c.root_of-root.ensures ∙ ap (λ rs. root_at rs c.args.version) c.as_slice.ensures.value in
    let many : c.args.version < length (lists_of ns roots) =
    subst (λ (v : Versions). c.args.version < length v.lists) (sym c.self.view_is) c.requires in
    let list : version_list c.args.self.now c.args.version ≡ list_of ns c.root_of-root.result.link =
    ap (λ (v : Versions). version_list v c.args.version) (sym c.self.view_is)
    ∙ list_at ns roots c.args.version (omega (arith, many, length-map roots (rooted ns))) ∙ ap (rooted ns) (sym root_is) in
    c.from_residual.ensures ∙ sym (ap (λ xs. slice_get (visible xs) c.args.k) list
    ∙ find-visible (list_of ns c.root_of-root.result.link) c.args.k
    ∙ ap (option_map (λ (p : ℕ × ℕ). p.0)) (sym c.in_err-elem.ensures.found))

pub returns-in_err-elem-clause-cost : goal.returns-in_err-elem-clause-cost
returns-in_err-elem-clause-cost c =
    let ns = c.self.inside.nodes.nodes in
    let roots = c.self.inside.roots.items in
    let root_is : c.root_of-root.result ≡ root_at roots c.args.version =
    c.root_of-root.ensures ∙ ap (λ rs. root_at rs c.args.version) c.as_slice.ensures.value in
    let many : c.args.version < length (lists_of ns roots) =
    subst (λ (v : Versions). c.args.version < length v.lists) (sym c.self.view_is) c.requires in
    let list : version_list c.args.self.now c.args.version ≡ list_of ns c.root_of-root.result.link =
    ap (λ (v : Versions). version_list v c.args.version) (sym c.self.view_is)
    ∙ list_at ns roots c.args.version (omega (arith, many, length-map roots (rooted ns))) ∙ ap (rooted ns) (sym root_is) in
    omega (arith, c.find_in.ensures.cost, ap (λ xs. digits (length xs)) list)

pub returns-clause-found : goal.returns-clause-found
returns-clause-found c =
    let ns = c.self.inside.nodes.nodes in
    let roots = c.self.inside.roots.items in
    let root_is : c.root_of-root.result ≡ root_at roots c.args.version =
    c.root_of-root.ensures ∙ ap (λ rs. root_at rs c.args.version) c.as_slice.ensures.value in
    let many : c.args.version < length (lists_of ns roots) =
    subst (λ (v : Versions). c.args.version < length v.lists) (sym c.self.view_is) c.requires in
    let list : version_list c.args.self.now c.args.version ≡ list_of ns c.root_of-root.result.link =
    ap (λ (v : Versions). version_list v c.args.version) (sym c.self.view_is)
    ∙ list_at ns roots c.args.version (omega (arith, many, length-map roots (rooted ns))) ∙ ap (rooted ns) (sym root_is) in
    sym (ap (λ xs. slice_get (visible xs) c.args.k) list ∙ find-visible (list_of ns c.root_of-root.result.link) c.args.k
    ∙ ap (option_map (λ (p : ℕ × ℕ). p.0)) (sym c.in_ok-elem.ensures.found))

pub returns-clause-cost : goal.returns-clause-cost
returns-clause-cost c =
    let ns = c.self.inside.nodes.nodes in
    let roots = c.self.inside.roots.items in
    let root_is : c.root_of-root.result ≡ root_at roots c.args.version =
    c.root_of-root.ensures ∙ ap (λ rs. root_at rs c.args.version) c.as_slice.ensures.value in
    let many : c.args.version < length (lists_of ns roots) =
    subst (λ (v : Versions). c.args.version < length v.lists) (sym c.self.view_is) c.requires in
    let list : version_list c.args.self.now c.args.version ≡ list_of ns c.root_of-root.result.link =
    ap (λ (v : Versions). version_list v c.args.version) (sym c.self.view_is)
    ∙ list_at ns roots c.args.version (omega (arith, many, length-map roots (rooted ns))) ∙ ap (rooted ns) (sym root_is) in
    omega (arith, c.find_in.ensures.cost, ap (λ xs. digits (length xs)) list)
