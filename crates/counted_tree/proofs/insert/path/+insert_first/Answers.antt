use Rattle.std.proofs.Common.{◌-◌, ◌∷◌, rules, List, length, ap, ◌∙◌, arith, subst, length-append}
use Rattle.counted_tree.specs.declared.entry.Entry.{Entry}
use Rattle.counted_tree.specs.Internal.Tree.{entries, height}
use Rattle.counted_tree.specs.Internal.Change.{tree_in}
use Rattle.counted_tree.specs.Internal.GrownTree.{grown_link}
use Rattle.counted_tree.specs.Internal.Table.{AreOwn}
use Rattle.counted_tree.proofs.NodeAdditions.{read_again, sound_node, still_there}
use Rattle.counted_tree.proofs.Gains.{gains_first}
use Rattle.counted_tree.proofs.TableChanges.{hangs_left}
use Rattle.counted_tree.proofs.Levels.{down_left, up_left, whole_left, whole_told}
use Rattle.counted_tree.proofs.insert.path.+insert_first.Goals as goal

pub insert_first-left-requires : goal.insert_first-left-requires
insert_first-left-requires t c =
    let a = c.args.nodes.now in
    let n = c.look-below.result in
    let tb = c.args.table.now in
    let xs : List Entry = c.args.entry.now ∷ entries (tree_in a n.left) in
    let whole = ap (tree_in a) c.in-Some.is ∙ c.look-below.ensures.tree in
    let own = subst (λ u. AreOwn (length tb) (c.args.entry.now ∷ entries u)) whole c.requires.own in
    let d = down_left tb (tree_in a c.args.link) (tree_in a n.left) (tree_in a n.right) n.entry xs whole own c.requires.kept in
    let size = ap (λ u. length (entries u)) whole in
    let high = ap height whole in
    let few = length-append (entries (tree_in a n.left)) (n.entry ∷ entries (tree_in a n.right)) in (
      search rules,
      (
        c.requires.sound,
        (
          c.look-below.ensures.left,
          (
            omega (arith, high, c.requires.reserved),
            (
              c.requires.known,
              (omega (arith, size, few, c.requires.few), (d.own, (d.kept, d.row))),
            ),
          ),
        ),
      ),
    )

pub lift_left-requires : goal.lift_left-requires
lift_left-requires t c =
    let a = c.args.nodes.now in
    let b = c.insert_first-left.new.nodes in
    let o = c.look-below.ensures in
    let n = c.look-below.result in
    let tb = c.args.table.now in
    let xs : List Entry = c.args.entry.now ∷ entries (tree_in a n.left) in
    let whole = ap (tree_in a) c.in-Some.is ∙ c.look-below.ensures.tree in
    let own = subst (λ u. AreOwn (length tb) (c.args.entry.now ∷ entries u)) whole c.requires.own in
    let node = sound_node a n o.left o.right o.size o.known.0 o.balanced in
    let up = up_left a b _ tb c.insert_first-left.new.table (tree_in a c.args.link) (tree_in b (grown_link c.insert_first-left.result)) n
    c.args.entry.now c.insert_first-left.result (length b.nodes - length a.nodes) xs c.insert_first-left.ensures.adds node whole
    c.requires.few own c.requires.kept
    c.requires.row (gains_first c.args.entry.now (entries (tree_in a n.left))) c.insert_first-left.ensures.lists
    c.insert_first-left.ensures.grown c.insert_first-left.ensures.hangs c.insert_first-left.ensures.told in
    let again = read_again a b _ c.in-Some.at c.look-below.result c.look-node.result c.insert_first-left.ensures.adds
    c.look-below.ensures.node c.look-node.ensures.node in
    rw again (record {
      sound = search rules;
      at = still_there a b _ c.in-Some.at n c.insert_first-left.ensures.adds o.node;
      node = up.node;
      reserved = search rules;
      left = up.told;
      gains = up.gains;
      rises = up.rises;
      few = up.few;
      row = up.row;
      other = up.other;
      ready = up.ready;
    })

pub returns-clause-told : goal.returns-clause-told
returns-clause-told t c =
    let a = c.args.nodes.now in
    let b = c.insert_first-left.new.nodes in
    let o = c.look-below.ensures in
    let n = c.look-below.result in
    let tb = c.args.table.now in
    let xs : List Entry = c.args.entry.now ∷ entries (tree_in a n.left) in
    let whole = ap (tree_in a) c.in-Some.is ∙ c.look-below.ensures.tree in
    let own = subst (λ u. AreOwn (length tb) (c.args.entry.now ∷ entries u)) whole c.requires.own in
    let node = sound_node a n o.left o.right o.size o.known.0 o.balanced in
    let up = up_left a b _ tb c.insert_first-left.new.table (tree_in a c.args.link) (tree_in b (grown_link c.insert_first-left.result)) n
    c.args.entry.now c.insert_first-left.result (length b.nodes - length a.nodes) xs c.insert_first-left.ensures.adds node whole
    c.requires.few own c.requires.kept
    c.requires.row (gains_first c.args.entry.now (entries (tree_in a n.left))) c.insert_first-left.ensures.lists
    c.insert_first-left.ensures.grown c.insert_first-left.ensures.hangs c.insert_first-left.ensures.told in
    let again = read_again a b _ c.in-Some.at c.look-below.result c.look-node.result c.insert_first-left.ensures.adds
    c.look-below.ensures.node c.look-node.ensures.node in
    whole_told a b c.lift_left.new.nodes _ tb c.insert_first-left.new.table c.lift_left.new.table n (tree_in a c.args.link)
    c.lift_left.result c.insert_first-left.ensures.adds node whole up.rows (rw again at c.lift_left.ensures.told)

pub returns-clause-adds : goal.returns-clause-adds
returns-clause-adds t c =
    let a = c.args.nodes.now in
    let o = c.look-below.ensures in
    let n = c.look-below.result in
    let whole = ap (tree_in a) c.in-Some.is ∙ o.tree in
    let node = sound_node a n o.left o.right o.size o.known.0 o.balanced in
    let again = read_again a c.insert_first-left.new.nodes _ c.in-Some.at c.look-below.result c.look-node.result
    c.insert_first-left.ensures.adds
    c.look-below.ensures.node c.look-node.ensures.node in
    (whole_left a c.insert_first-left.new.nodes c.lift_left.new.nodes _ 3 n (tree_in a c.args.link) _ _ c.insert_first-left.ensures.adds
    c.lift_left.ensures.adds node whole (rw again at c.lift_left.ensures.grown) c.insert_first-left.ensures.grown).1

pub returns-clause-grown : goal.returns-clause-grown
returns-clause-grown t c =
    let a = c.args.nodes.now in
    let o = c.look-below.ensures in
    let n = c.look-below.result in
    let whole = ap (tree_in a) c.in-Some.is ∙ o.tree in
    let node = sound_node a n o.left o.right o.size o.known.0 o.balanced in
    let again = read_again a c.insert_first-left.new.nodes _ c.in-Some.at c.look-below.result c.look-node.result
    c.insert_first-left.ensures.adds
    c.look-below.ensures.node c.look-node.ensures.node in
    (whole_left a c.insert_first-left.new.nodes c.lift_left.new.nodes _ 3 n (tree_in a c.args.link) _ _ c.insert_first-left.ensures.adds
    c.lift_left.ensures.adds node whole (rw again at c.lift_left.ensures.grown) c.insert_first-left.ensures.grown).0

pub returns-clause-hangs : goal.returns-clause-hangs
returns-clause-hangs t c =
    let a = c.args.nodes.now in
    let b = c.insert_first-left.new.nodes in
    let again = read_again a b _ c.in-Some.at c.look-below.result c.look-node.result c.insert_first-left.ensures.adds
    c.look-below.ensures.node c.look-node.ensures.node in
    hangs_left c.args.table.now c.insert_first-left.new.table c.lift_left.new.table (tree_in b (grown_link c.insert_first-left.result))
    (tree_in b c.look-below.result.right) (tree_in c.lift_left.new.nodes (grown_link c.lift_left.result)) c.look-below.result.entry
    c.insert_first-left.ensures.hangs c.lift_left.ensures.hangs (rw again at c.lift_left.ensures.lists)
