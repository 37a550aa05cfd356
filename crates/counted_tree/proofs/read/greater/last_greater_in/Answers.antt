use Rattle.std.proofs.Common.{◌≡◌, length, Some, arith, sym, ap, ◌∙◌, subst, refl}
use Rattle.std.specs.Option.{IsSome, IfSome}
use Rattle.counted_tree.specs.Internal.Tree.{entries}
use Rattle.counted_tree.specs.Internal.PathEntries.{entry_at, after_at, elem_at}
use Rattle.counted_tree.specs.Internal.Change.{tree_in}
use Rattle.counted_tree.specs.Changes.{Lists}
use Rattle.counted_tree.specs.Greater.{passed, last_greater}
use Rattle.counted_tree.proofs.EarlierTrees.{linked_balanced}
use Rattle.counted_tree.proofs.Counts.{height_small}
use Rattle.counted_tree.proofs.Heights.{height_bound}
use Rattle.counted_tree.proofs.Ways.{way_there, way_leads}
use Rattle.counted_tree.proofs.Splits.{passed_there}
use Rattle.counted_tree.proofs.Passes.{passed_stopped, passed_all_there}
use Rattle.counted_tree.proofs.read.greater.last_greater_in.Goals as goal

pub returns-in_default-clause-cost : goal.returns-in_default-clause-cost
returns-in_default-clause-cost c =
    let a = c.args.nodes.now in
    let t = tree_in a c.args.link in
    omega (arith, c.passed_in.ensures.cost, height_bound t (linked_balanced a.nodes c.args.link c.requires.sound c.requires.link))

pub way_to-path-requires : goal.way_to-path-requires
way_to-path-requires c =
    let a = c.args.nodes.now in
    let t = tree_in a c.args.link in
    let listed = subst (λ o. IfSome o (λ e. Lists e (entries t))) c.in-Some.is c.requires.there in
    let w = way_there t c.in-Some.elem c.args.table.now listed c.requires.newest.kept c.requires.newest.top in
    let small = height_small t (linked_balanced a.nodes c.args.link c.requires.sound c.requires.link) c.requires.few in
    (w.0, omega (arith, w.1, small), w.2)

pub stop_at-requires-clause-there : goal.stop_at-requires-clause-there
stop_at-requires-clause-there c =
    let a = c.args.nodes.now in
    let t = tree_in a c.args.link in
    let path = c.as_slice.result.now in
    let listed = subst (λ o. IfSome o (λ e. Lists e (entries t))) c.in-Some.is c.requires.there in
    let w = way_leads t c.in-Some.elem c.args.table.now c.way_to-path.result.items listed c.requires.newest.kept
    c.requires.newest.top c.way_to-path.ensures in
    let at : entry_at t path ≡ Some w.0 = ap (entry_at t) c.as_slice.ensures.value ∙ w.1 in
    subst IsSome (sym at) refl

pub returns-in-Some-stop_at-clause-last : goal.returns-in-Some-stop_at-clause-last
returns-in-Some-stop_at-clause-last c =
    let a = c.args.nodes.now in
    let t = tree_in a c.args.link in
    let path = c.as_slice.result.now in
    let listed = subst (λ o. IfSome o (λ e. Lists e (entries t))) c.in-Some.is c.requires.there in
    let w = way_leads t c.in-Some.elem c.args.table.now c.way_to-path.result.items listed c.requires.newest.kept
    c.requires.newest.top c.way_to-path.ensures in
    let at : entry_at t path ≡ Some w.0 = ap (entry_at t) c.as_slice.ensures.value ∙ w.1 in
    let whole : last_greater c.args.before c.args.key (entries t) ≡ passed c.args.key (elem_at t path) (after_at t path) =
    ap (λ o. last_greater o c.args.key (entries t)) c.in-Some.is
    ∙ sym (passed_there t path w.0 c.in-Some.elem (length c.args.table.now) at w.2 c.requires.newest.own c.args.key) in
    sym (whole ∙ passed_stopped c.args.key c.in-Some-stop_at.last (elem_at t path) (after_at t path)
    (sym c.stop_at.ensures.last ∙ c.in-Some-stop_at.is))

pub returns-in-None-clause-last : goal.returns-in-None-clause-last
returns-in-None-clause-last c =
    let a = c.args.nodes.now in
    let t = tree_in a c.args.link in
    let path = c.as_slice.result.now in
    let listed = subst (λ o. IfSome o (λ e. Lists e (entries t))) c.in-Some.is c.requires.there in
    let w = way_leads t c.in-Some.elem c.args.table.now c.way_to-path.result.items listed c.requires.newest.kept
    c.requires.newest.top c.way_to-path.ensures in
    let at : entry_at t path ≡ Some w.0 = ap (entry_at t) c.as_slice.ensures.value ∙ w.1 in
    let whole : last_greater c.args.before c.args.key (entries t) ≡ passed c.args.key (elem_at t path) (after_at t path) =
    ap (λ o. last_greater o c.args.key (entries t)) c.in-Some.is
    ∙ sym (passed_there t path w.0 c.in-Some.elem (length c.args.table.now) at w.2 c.requires.newest.own c.args.key) in
    c.last_in.ensures.last ∙ sym (whole ∙ passed_all_there t path c.args.key (subst IsSome (sym at) refl)
    (sym c.stop_at.ensures.last ∙ c.in-None.is))

pub returns-in-Some-stop_at-clause-cost : goal.returns-in-Some-stop_at-clause-cost
returns-in-Some-stop_at-clause-cost c =
    let a = c.args.nodes.now in
    let t = tree_in a c.args.link in
    omega (arith, c.stop_at.ensures.cost, height_bound t (linked_balanced a.nodes c.args.link c.requires.sound c.requires.link))

pub returns-in-None-clause-cost : goal.returns-in-None-clause-cost
returns-in-None-clause-cost c =
    let a = c.args.nodes.now in
    let t = tree_in a c.args.link in
    let passed = c.stop_at.ensures.passed c.in-None.is in
    omega (
      arith,
      passed,
      c.last_in.ensures.cost,
      height_bound t (linked_balanced a.nodes c.args.link c.requires.sound c.requires.link),
    )
