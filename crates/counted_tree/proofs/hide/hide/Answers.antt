use Rattle.std.proofs.Common.{◌≡◌, length, Some, arith, sym, ap, ◌∙◌, subst, refl}
use Rattle.std.specs.Option.{IsSome}
use Rattle.counted_tree.specs.Digits.{digits}
use Rattle.counted_tree.specs.Internal.Tree.{height}
use Rattle.counted_tree.specs.Internal.Size.{IsSizeOf}
use Rattle.counted_tree.specs.Internal.PathEntries.{entry_at, before_at}
use Rattle.counted_tree.specs.Internal.Change.{tree_in}
use Rattle.counted_tree.proofs.EarlierTrees.{linked_balanced}
use Rattle.counted_tree.proofs.Counts.{height_small}
use Rattle.counted_tree.proofs.Heights.{height_bound}
use Rattle.counted_tree.proofs.Paths.{length-hidden_at, length-before_at-le}
use Rattle.counted_tree.proofs.VersionLists.{adds_weaker}
use Rattle.counted_tree.proofs.Ways.{way_there, way_leads}
use Rattle.counted_tree.proofs.Sizes.{size_few}
use Rattle.counted_tree.proofs.Splits.{hidden_there, before_there}
use Rattle.counted_tree.proofs.Newest.{newest_hidden}
use Rattle.counted_tree.proofs.hide.hide.Goals as goal

pub way_to-path-requires : goal.way_to-path-requires
way_to-path-requires c =
    let a = c.args.nodes.now in
    let t = tree_in a c.args.link in
    let w = way_there t c.args.elem c.args.table.now c.requires.there c.requires.newest.kept c.requires.newest.top in
    let small = height_small t (linked_balanced a.nodes c.args.link c.requires.sound c.requires.link) c.requires.few in
    (w.0, omega (arith, w.1, small), w.2)

pub hide_at-requires-clause-there : goal.hide_at-requires-clause-there
hide_at-requires-clause-there c =
    let a = c.args.nodes.now in
    let t = tree_in a c.args.link in
    let path = c.as_slice.result.now in
    let w = way_leads t c.args.elem c.args.table.now c.way_to-path.result.items c.requires.there c.requires.newest.kept
    c.requires.newest.top c.way_to-path.ensures in
    let at : entry_at t path ≡ Some w.0 = ap (entry_at t) c.as_slice.ensures.value ∙ w.1 in
    subst IsSome (sym at) refl

pub hide_at-requires-clause-reserved : goal.hide_at-requires-clause-reserved
hide_at-requires-clause-reserved c =
    let a = c.args.nodes.now in
    let t = tree_in a c.args.link in
    omega (arith, c.requires.reserved, height_small t (linked_balanced a.nodes c.args.link c.requires.sound c.requires.link) c.requires.few)

pub returns-clause-adds : goal.returns-clause-adds
returns-clause-adds c =
    let a = c.args.nodes.now in
    let t = tree_in a c.args.link in
    let small = height_small t (linked_balanced a.nodes c.args.link c.requires.sound c.requires.link) c.requires.few in
    adds_weaker a c.hide_at.new.nodes (height t) 28 (omega (arith, small)) c.hide_at.ensures.adds

pub returns-clause-lists : goal.returns-clause-lists
returns-clause-lists c =
    let a = c.args.nodes.now in
    let t = tree_in a c.args.link in
    let path = c.as_slice.result.now in
    let w = way_leads t c.args.elem c.args.table.now c.way_to-path.result.items c.requires.there c.requires.newest.kept
    c.requires.newest.top c.way_to-path.ensures in
    let at : entry_at t path ≡ Some w.0 = ap (entry_at t) c.as_slice.ensures.value ∙ w.1 in
    c.hide_at.ensures.lists ∙ hidden_there t path w.0 c.args.elem (length c.args.table.now) at w.2 c.requires.newest.own

pub returns-clause-nodes : goal.returns-clause-nodes
returns-clause-nodes c =
    let a = c.args.nodes.now in
    let t = tree_in a c.args.link in
    let high = height_bound t (linked_balanced a.nodes c.args.link c.requires.sound c.requires.link) in
    let same = ap digits (ap length c.hide_at.ensures.lists ∙ length-hidden_at t c.as_slice.result.now) in
    omega (arith, c.hide_at.ensures.adds.at_most, high, same)

pub returns-clause-cost : goal.returns-clause-cost
returns-clause-cost c =
    let a = c.args.nodes.now in
    let t = tree_in a c.args.link in
    omega (arith, c.hide_at.ensures.cost, height_bound t (linked_balanced a.nodes c.args.link c.requires.sound c.requires.link))

pub returns-clause-newest : goal.returns-clause-newest
returns-clause-newest c =
    let a = c.args.nodes.now in
    let t = tree_in a c.args.link in
    let path = c.as_slice.result.now in
    let w = way_leads t c.args.elem c.args.table.now c.way_to-path.result.items c.requires.there c.requires.newest.kept
    c.requires.newest.top c.way_to-path.ensures in
    let at : entry_at t path ≡ Some w.0 = ap (entry_at t) c.as_slice.ensures.value ∙ w.1 in
    let lists = c.hide_at.ensures.lists ∙ hidden_there t path w.0 c.args.elem (length c.args.table.now) at w.2 c.requires.newest.own in
    newest_hidden t (tree_in c.hide_at.new.nodes (Some c.hide_at.result.top)) path c.args.elem c.args.table.now c.requires.newest
    c.hide_at.ensures.tree lists

pub returns-clause-rank : goal.returns-clause-rank
returns-clause-rank c =
    let a = c.args.nodes.now in
    let t = tree_in a c.args.link in
    let path = c.as_slice.result.now in
    let w = way_leads t c.args.elem c.args.table.now c.way_to-path.result.items c.requires.there c.requires.newest.kept
    c.requires.newest.top c.way_to-path.ensures in
    let at : entry_at t path ≡ Some w.0 = ap (entry_at t) c.as_slice.ensures.value ∙ w.1 in
    subst (IsSizeOf c.hide_at.result.rank) (before_there t path w.0 c.args.elem (length c.args.table.now) at w.2 c.requires.newest.own)
    c.hide_at.ensures.rank

pub returns-clause-few_before : goal.returns-clause-few_before
returns-clause-few_before c =
    let t = tree_in c.args.nodes.now c.args.link in
    let path = c.as_slice.result.now in
    let few = size_few c.hide_at.result.rank (before_at t path) c.hide_at.ensures.rank in
    let all = length-before_at-le t path in
    (omega (arith, few.0, all, c.requires.few), omega (arith, few.1, all, c.requires.few))
