use Rattle.std.proofs.Common.{◌≡◌, length, Some, arith, sym, ap, ◌∙◌, subst, refl}
use Rattle.std.specs.Option.{IsSome}
use Rattle.counted_tree.specs.Internal.Size.{IsSizeOf}
use Rattle.counted_tree.specs.Internal.PathEntries.{entry_at, before_at}
use Rattle.counted_tree.specs.Internal.Change.{tree_in}
use Rattle.counted_tree.proofs.EarlierTrees.{linked_balanced}
use Rattle.counted_tree.proofs.Counts.{height_small}
use Rattle.counted_tree.proofs.Heights.{height_bound}
use Rattle.counted_tree.proofs.Paths.{length-before_at-le}
use Rattle.counted_tree.proofs.Sizes.{size_few}
use Rattle.counted_tree.proofs.Ways.{way_there, way_leads}
use Rattle.counted_tree.proofs.Splits.{before_there}
use Rattle.counted_tree.proofs.read.rank.rank_in.Goals as goal

pub way_to-path-requires : goal.way_to-path-requires
way_to-path-requires c =
    let a = c.args.nodes.now in
    let t = tree_in a c.args.link in
    let w = way_there t c.args.elem c.args.table.now c.requires.there c.requires.newest.kept c.requires.newest.top in
    let small = height_small t (linked_balanced a.nodes c.args.link c.requires.sound c.requires.link) c.requires.few in
    (w.0, omega (arith, w.1, small), w.2)

pub rank_at-requires-clause-there : goal.rank_at-requires-clause-there
rank_at-requires-clause-there c =
    let a = c.args.nodes.now in
    let t = tree_in a c.args.link in
    let path = c.as_slice.result.now in
    let w = way_leads t c.args.elem c.args.table.now c.way_to-path.result.items c.requires.there c.requires.newest.kept
    c.requires.newest.top c.way_to-path.ensures in
    let at : entry_at t path ≡ Some w.0 = ap (entry_at t) c.as_slice.ensures.value ∙ w.1 in
    subst IsSome (sym at) refl

pub returns-clause-size : goal.returns-clause-size
returns-clause-size c =
    let a = c.args.nodes.now in
    let t = tree_in a c.args.link in
    let path = c.as_slice.result.now in
    let w = way_leads t c.args.elem c.args.table.now c.way_to-path.result.items c.requires.there c.requires.newest.kept
    c.requires.newest.top c.way_to-path.ensures in
    let at : entry_at t path ≡ Some w.0 = ap (entry_at t) c.as_slice.ensures.value ∙ w.1 in
    subst (IsSizeOf c.rank_at.result) (before_there t path w.0 c.args.elem (length c.args.table.now) at w.2 c.requires.newest.own)
    c.rank_at.ensures.size

pub returns-clause-few : goal.returns-clause-few
returns-clause-few c =
    let t = tree_in c.args.nodes.now c.args.link in
    let path = c.as_slice.result.now in
    let few = size_few c.rank_at.result (before_at t path) c.rank_at.ensures.size in
    let all = length-before_at-le t path in
    (omega (arith, few.0, all, c.requires.few), omega (arith, few.1, all, c.requires.few))

pub returns-clause-cost : goal.returns-clause-cost
returns-clause-cost c =
    let a = c.args.nodes.now in
    let t = tree_in a c.args.link in
    omega (arith, c.rank_at.ensures.cost, height_bound t (linked_balanced a.nodes c.args.link c.requires.sound c.requires.link))
