use Rattle.std.proofs.Common.{◌≡◌, ◌+◌, length, Some, None, refl, arith, sym, ap, ◌∙◌, subst}
use Rattle.std.specs.Option.{IfSome, IsSome}
use Rattle.counted_tree.specs.Internal.Tree.{entries, height}
use Rattle.counted_tree.specs.Internal.PathEntries.{entry_at}
use Rattle.counted_tree.specs.Internal.Change.{tree_in}
use Rattle.counted_tree.specs.Changes.{Lists, before}
use Rattle.counted_tree.specs.Internal.Size.{IsSizeOf}
use Rattle.counted_tree.specs.Internal.GrownTree.{grown_link}
use Rattle.counted_tree.specs.Internal.Table.{AreOwn}
use Rattle.counted_tree.proofs.EarlierTrees.{linked_balanced}
use Rattle.counted_tree.proofs.Counts.{height_small}
use Rattle.counted_tree.proofs.Heights.{height_bound}
use Rattle.counted_tree.proofs.VersionLists.{made_at_most, adds_weaker}
use Rattle.counted_tree.proofs.Ranks.{rank_first}
use Rattle.counted_tree.proofs.Unders.{path_short}
use Rattle.counted_tree.proofs.Ways.{way_there, way_leads}
use Rattle.counted_tree.proofs.Splits.{inserted_there, own_put}
use Rattle.counted_tree.proofs.insert.place.Goals as goal

pub insert_first-top-requires-clause-reserved : goal.insert_first-top-requires-clause-reserved
insert_first-top-requires-clause-reserved c =
    let a = c.args.nodes.now in
    let t = tree_in a c.args.link in
    let small = height_small t (linked_balanced a.nodes c.args.link c.requires.sound c.requires.link) (omega (arith, c.requires.few)) in
    omega (arith, c.requires.reserved, small)

pub returns-in-None-clause-adds : goal.returns-in-None-clause-adds
returns-in-None-clause-adds c =
    let a = c.args.nodes.now in
    let t = tree_in a c.args.link in
    let small = height_small t (linked_balanced a.nodes c.args.link c.requires.sound c.requires.link) (omega (arith, c.requires.few)) in
    adds_weaker a c.insert_first-top.new.nodes (height t + 3) 28 (omega (arith, small)) c.insert_first-top.ensures.adds

pub returns-in-None-clause-nodes : goal.returns-in-None-clause-nodes
returns-in-None-clause-nodes c =
    let new = tree_in c.insert_first-top.new.nodes (grown_link c.insert_first-top.result) in
    let made = made_at_most _ new _ c.insert_first-top.ensures.grown in
    let high = height_bound new c.insert_first-top.ensures.grown.balanced in
    omega (arith, made, high, c.insert_first-top.ensures.adds.longer)

pub returns-in-Some-clause-adds : goal.returns-in-Some-clause-adds
returns-in-Some-clause-adds c =
    let a = c.args.nodes.now in
    let t = tree_in a c.args.link in
    let small = height_small t (linked_balanced a.nodes c.args.link c.requires.sound c.requires.link) (omega (arith, c.requires.few)) in
    adds_weaker a c.insert_at.new.nodes (height t + 3) 28 (omega (arith, small)) c.insert_at.ensures.inserted.adds

pub returns-in-Some-clause-nodes : goal.returns-in-Some-clause-nodes
returns-in-Some-clause-nodes c =
    let new = tree_in c.insert_at.new.nodes (grown_link c.insert_at.result.top) in
    let made = made_at_most _ new _ c.insert_at.ensures.inserted.grown in
    let high = height_bound new c.insert_at.ensures.inserted.grown.balanced in
    omega (arith, made, high, c.insert_at.ensures.inserted.adds.longer)

pub way_to-path-requires : goal.way_to-path-requires
way_to-path-requires c =
    let a = c.args.nodes.now in
    let t = tree_in a c.args.link in
    let tb = c.args.table.now in
    let there : Lists c.in-Some.elem (entries t) = subst (λ o. IfSome o (λ e. Lists e (entries t))) c.in-Some.is c.requires.there in
    let small = height_small t (linked_balanced a.nodes c.args.link c.requires.sound c.requires.link) (omega (arith, c.requires.few)) in
    let w = way_there t c.in-Some.elem tb there c.requires.kept c.requires.top in
    (w.0, omega (arith, w.1, small), w.2)

pub insert_at-requires : goal.insert_at-requires
insert_at-requires c =
    let a = c.args.nodes.now in
    let t = tree_in a c.args.link in
    let tb = c.args.table.now in
    let there : Lists c.in-Some.elem (entries t) = subst (λ o. IfSome o (λ e. Lists e (entries t))) c.in-Some.is c.requires.there in
    let path = c.as_slice.result.now in
    let w = way_leads t c.in-Some.elem tb c.way_to-path.result.items there c.requires.kept c.requires.top c.way_to-path.ensures in
    let at : entry_at t path ≡ Some w.0 = ap (entry_at t) c.as_slice.ensures.value ∙ w.1 in
    let same = inserted_there t path w.0 c.in-Some.elem (length tb) at w.2 c.requires.own.2 c.args.entry in
    let small = height_small t (linked_balanced a.nodes c.args.link c.requires.sound c.requires.link) (omega (arith, c.requires.few)) in
    record {
      sound = c.requires.sound;
      link = c.requires.link;
      known = c.requires.known;
      there = subst IsSome (sym at) refl;
      short = omega (arith, small, path_short t path w.0 at);
      fit = record {
        reserved = omega (arith, c.requires.reserved, small);
        few = c.requires.few;
        own = subst (AreOwn (length tb)) (sym same) (own_put (length tb) c.in-Some.elem c.args.entry (entries t) c.requires.own);
        kept = c.requires.kept;
        row = (None, c.requires.top);
      };
    }

pub returns-in-Some-clause-lists : goal.returns-in-Some-clause-lists
returns-in-Some-clause-lists c =
    let a = c.args.nodes.now in
    let t = tree_in a c.args.link in
    let tb = c.args.table.now in
    let there : Lists c.in-Some.elem (entries t) = subst (λ o. IfSome o (λ e. Lists e (entries t))) c.in-Some.is c.requires.there in
    let path = c.as_slice.result.now in
    let w = way_leads t c.in-Some.elem tb c.way_to-path.result.items there c.requires.kept c.requires.top c.way_to-path.ensures in
    let at : entry_at t path ≡ Some w.0 = ap (entry_at t) c.as_slice.ensures.value ∙ w.1 in
    let same = inserted_there t path w.0 c.in-Some.elem (length tb) at w.2 c.requires.own.2 c.args.entry in
    rw c.in-Some.is (c.insert_at.ensures.inserted.lists ∙ same)

pub returns-in-None-clause-rank : goal.returns-in-None-clause-rank
returns-in-None-clause-rank c =
    let xs = entries (tree_in c.args.nodes.now c.args.link) in
    rw c.insert_first-top.ensures.lists (rank_first c.none.result c.args.entry xs c.none.ensures)

pub returns-in-Some-clause-rank : goal.returns-in-Some-clause-rank
returns-in-Some-clause-rank c =
    let made = c.insert_at.ensures.inserted in
    subst (λ xs. IsSizeOf c.insert_at.result.rank (before c.args.entry.elem xs)) (sym made.lists) made.rank
