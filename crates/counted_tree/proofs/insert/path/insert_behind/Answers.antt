use Rattle.std.proofs.Common.{◌≡◌, ◌-◌, ◌<◌, [], ◌∷◌, rules, length, Some, refl, ap, arith, subst, length-append}
use Rattle.counted_tree.specs.Internal.Tree.{entries, height}
use Rattle.counted_tree.specs.Internal.Tree.Tree.{Fork}
use Rattle.counted_tree.specs.Internal.Change.{tree_in}
use Rattle.counted_tree.specs.Internal.GrownTree.{grown_link}
use Rattle.counted_tree.proofs.NodeAdditions.{read_again, sound_node, still_there}
use Rattle.counted_tree.proofs.Gains.{gains_first}
use Rattle.counted_tree.proofs.TableChanges.{hangs_right}
use Rattle.counted_tree.proofs.Levels.{down_right, up_right, whole_right, whole_told}
use Rattle.counted_tree.proofs.Paths.{own_along}
use Rattle.counted_tree.proofs.Ranks.{rank_here, rank_here_small}
use Rattle.counted_tree.proofs.insert.path.insert_behind.Goals as goal

pub insert_first-right-requires : goal.insert_first-right-requires
insert_first-right-requires c =
    let a = c.args.nodes.now in
    let n = c.look-below.result in
    let o = c.look-below.ensures in
    let tb = c.args.table.now in
    let l = tree_in a n.left in
    let r = tree_in a n.right in
    let whole : tree_in a (Some c.args.at) ≡ Fork l n.entry r = o.tree in
    let own = own_along (length tb) (tree_in a (Some c.args.at)) l r n.entry c.args.entry.now [] [] whole refl c.requires.fit.own in
    let d = down_right tb (tree_in a (Some c.args.at)) l r n.entry (c.args.entry.now ∷ entries r) whole own c.requires.fit.kept in
    let size = ap (λ u. length (entries u)) whole in
    let high = ap height whole in
    let few = length-append (entries l) (n.entry ∷ entries r) in
    record {
      sound = c.requires.sound;
      link = o.right;
      reserved = omega (arith, high, c.requires.fit.reserved);
      known = c.requires.known;
      few = omega (arith, size, few, c.requires.fit.few);
      own = d.own;
      kept = d.kept;
      row = d.row;
    }

pub lift_right-top-requires : goal.lift_right-top-requires
lift_right-top-requires c =
    let a = c.args.nodes.now in
    let n = c.look-below.result in
    let o = c.look-below.ensures in
    let tb = c.args.table.now in
    let l = tree_in a n.left in
    let r = tree_in a n.right in
    let whole : tree_in a (Some c.args.at) ≡ Fork l n.entry r = o.tree in
    let own = own_along (length tb) (tree_in a (Some c.args.at)) l r n.entry c.args.entry.now [] [] whole refl c.requires.fit.own in
    let node = sound_node a n o.left o.right o.size o.known.0 o.balanced in
    let b = c.insert_first-right.new.nodes in
    let up = up_right a b _ tb c.insert_first-right.new.table (tree_in a (Some c.args.at))
    (tree_in b (grown_link c.insert_first-right.result)) n
    c.args.entry.now c.insert_first-right.result
    (length b.nodes - length a.nodes) _ c.insert_first-right.ensures.adds node whole c.requires.fit.few own
    c.requires.fit.kept c.requires.fit.row
    (gains_first c.args.entry.now (entries r)) c.insert_first-right.ensures.lists c.insert_first-right.ensures.grown
    c.insert_first-right.ensures.hangs c.insert_first-right.ensures.told in
    let again = read_again a c.insert_first-right.new.nodes _ c.args.at c.look-below.result c.look-node.result
    c.insert_first-right.ensures.adds
    c.look-below.ensures.node c.look-node.ensures.node in
    rw again (record {
      sound = search rules;
      at = still_there a b _ c.args.at n c.insert_first-right.ensures.adds o.node;
      node = up.node;
      reserved = search rules;
      right = up.told;
      gains = up.gains;
      rises = up.rises;
      few = up.few;
      row = up.row;
      other = up.other;
      ready = up.ready;
    })

pub through-rank-requires : goal.through-rank-requires
through-rank-requires c =
    let a = c.args.nodes.now in
    let n = c.look-below.result in
    let o = c.look-below.ensures in
    let l = tree_in a n.left in
    let r = tree_in a n.right in
    let whole : tree_in a (Some c.args.at) ≡ Fork l n.entry r = o.tree in
    let few = subst (λ u. length (entries u) < 131072) whole c.requires.fit.few in
    let small = rank_here_small l r n.entry n.left_size c.none.result c.none.ensures few o.size in
    let again = read_again a c.insert_first-right.new.nodes _ c.args.at c.look-below.result c.look-node.result
    c.insert_first-right.ensures.adds
    c.look-below.ensures.node c.look-node.ensures.node in
    rw again (record { shown = small.0; units = small.1 })

pub returns-clause-inserted : goal.returns-clause-inserted
returns-clause-inserted c =
    let a = c.args.nodes.now in
    let n = c.look-below.result in
    let o = c.look-below.ensures in
    let tb = c.args.table.now in
    let l = tree_in a n.left in
    let r = tree_in a n.right in
    let whole : tree_in a (Some c.args.at) ≡ Fork l n.entry r = o.tree in
    let own = own_along (length tb) (tree_in a (Some c.args.at)) l r n.entry c.args.entry.now [] [] whole refl c.requires.fit.own in
    let node = sound_node a n o.left o.right o.size o.known.0 o.balanced in
    let b = c.insert_first-right.new.nodes in
    let again = read_again a c.insert_first-right.new.nodes _ c.args.at c.look-below.result c.look-node.result
    c.insert_first-right.ensures.adds
    c.look-below.ensures.node c.look-node.ensures.node in
    let up = up_right a b _ tb c.insert_first-right.new.table (tree_in a (Some c.args.at))
    (tree_in b (grown_link c.insert_first-right.result)) n
    c.args.entry.now c.insert_first-right.result
    (length b.nodes - length a.nodes) _ c.insert_first-right.ensures.adds node whole c.requires.fit.few own
    c.requires.fit.kept c.requires.fit.row
    (gains_first c.args.entry.now (entries r)) c.insert_first-right.ensures.lists c.insert_first-right.ensures.grown
    c.insert_first-right.ensures.hangs c.insert_first-right.ensures.told in
    let grown = whole_right a b c.lift_right-top.new.nodes _ 3 n (tree_in a (Some c.args.at)) _ _ c.insert_first-right.ensures.adds
    c.lift_right-top.ensures.adds node whole
    (rw again at c.lift_right-top.ensures.grown) c.insert_first-right.ensures.grown in
    record {
      adds = grown.1;
      told = whole_told a b c.lift_right-top.new.nodes _ tb c.insert_first-right.new.table c.lift_right-top.new.table n
          (tree_in a (Some c.args.at))
          c.lift_right-top.result c.insert_first-right.ensures.adds node whole up.rows (rw again at c.lift_right-top.ensures.told);
      lists = search rules;
      grown = grown.0;
      hangs =
          hangs_right tb c.insert_first-right.new.table c.lift_right-top.new.table (tree_in b n.left)
          (tree_in b (grown_link c.insert_first-right.result))
          (tree_in c.lift_right-top.new.nodes (grown_link c.lift_right-top.result)) n.entry c.insert_first-right.ensures.hangs
          c.lift_right-top.ensures.hangs (rw again at c.lift_right-top.ensures.lists);
      rank =
          rw whole (rank_here (length tb) l r n.entry c.args.entry.now c.through-rank.result n.left_size c.none.result own
          c.none.ensures (rw again at c.through-rank.ensures) o.size);
    }
