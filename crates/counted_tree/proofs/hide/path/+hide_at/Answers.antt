use Rattle.std.proofs.Common.{◌≡◌, ◌∷◌, rules, length, Some, refl, ap, sym, ◌∙◌, subst, arith, length-append}
use Rattle.counted_tree.specs.declared.kept.side.Side.TheVariants.{Right}
use Rattle.counted_tree.specs.Internal.Size.{ShowsMore}
use Rattle.counted_tree.specs.Internal.Tree.{entries, height}
use Rattle.counted_tree.specs.Internal.Tree.Tree.{Fork}
use Rattle.counted_tree.specs.Internal.Change.{tree_in}
use Rattle.counted_tree.proofs.NodeAdditions.{node_stays, sound_again, sound_node, still_there}
use Rattle.counted_tree.proofs.Paths.{length-hidden_at}
use Rattle.counted_tree.proofs.Ranks.{before_here, before_right, before_small}
use Rattle.counted_tree.proofs.Sizes.{less_size, more_left, more_right}
use Rattle.counted_tree.proofs.hide.path.+hide_at.Goals as goal

pub returns-in-Some-Left-default-clause-less : goal.returns-in-Some-Left-default-clause-less
returns-in-Some-Left-default-clause-less t c =
    let a = c.args.nodes.now in
    let b = c.hide_at-left.new.nodes in
    let n = c.look-node.result in
    let l = tree_in a n.left in
    let r = tree_in a n.right in
    let new = tree_in b (Some c.hide_at-left.result.top) in
    let made = tree_in c.copy_left-top.new.nodes (Some c.copy_left-top.result) in
    let less = c.hide_at-left.result.less in
    let whole : tree_in a c.args.link ≡ Fork l n.entry r = ap (tree_in a) c.in-Some.is ∙ c.look-node.ensures.tree in
    let now : made ≡ Fork new n.entry r = c.copy_left-top.ensures.tree
    ∙ ap (λ u. Fork new n.entry u) (c.hide_at-left.ensures.adds.same n.right c.look-node.ensures.right) in
    let sides = more_left less (entries l) (entries new) (entries r) n.entry c.hide_at-left.ensures.less in
    subst (λ u. ShowsMore less (entries u) (entries made)) (sym whole)
    (subst (λ u. ShowsMore less (entries (Fork l n.entry r)) (entries u)) (sym now) sides)

pub returns-in-Some-Right-default-clause-less : goal.returns-in-Some-Right-default-clause-less
returns-in-Some-Right-default-clause-less t c =
    let a = c.args.nodes.now in
    let b = c.hide_at-right.new.nodes in
    let n = c.look-node.result in
    let l = tree_in a n.left in
    let r = tree_in a n.right in
    let new = tree_in b (Some c.hide_at-right.result.top) in
    let made = tree_in c.copy_right-top.new.nodes (Some c.copy_right-top.result) in
    let less = c.hide_at-right.result.less in
    let whole : tree_in a c.args.link ≡ Fork l n.entry r = ap (tree_in a) c.in-Some.is ∙ c.look-node.ensures.tree in
    let now : made ≡ Fork l n.entry new = c.copy_right-top.ensures.tree
    ∙ ap (λ u. Fork u n.entry new) (c.hide_at-right.ensures.adds.same n.left c.look-node.ensures.left) in
    let sides = more_right less (entries l) (entries r) (entries new) n.entry c.hide_at-right.ensures.less in
    subst (λ u. ShowsMore less (entries u) (entries made)) (sym whole)
    (subst (λ u. ShowsMore less (entries (Fork l n.entry r)) (entries u)) (sym now) sides)

pub append-top-requires-clause-node : goal.append-top-requires-clause-node
append-top-requires-clause-node t c =
    let a = c.args.nodes.now in
    let n = c.look-node.result in
    let o = c.look-node.ensures in
    sound_again a _ (tree_in a n.left) (tree_in a n.right) n.entry c.requires.sound o.left o.right o.size o.known.0 o.balanced refl refl

pub copy_left-top-requires : goal.copy_left-top-requires
copy_left-top-requires t c =
    let a = c.args.nodes.now in
    let b = c.hide_at-left.new.nodes in
    let n = c.look-node.result in
    let o = c.look-node.ensures in
    let p = c.hide_at-left.ensures in
    let e = ap height (p.adds.same n.right o.right) in
    let sound = sound_node a n o.left o.right o.size o.known.0 o.balanced in
    let whole = ap (λ u. length (entries u)) (ap (tree_in a) c.in-Some.is ∙ o.tree) in
    let f = ap length p.lists in
    let k = length-hidden_at (tree_in a n.left) c.in-Some-Left-default.rest.now in
    let long = length-append (entries (tree_in a n.left)) (n.entry ∷ entries (tree_in a n.right)) in
    record {
      sound = p.adds.sound;
      at = still_there a b _ c.in-Some.at n p.adds o.node;
      node = (node_stays a b _ n p.adds sound).0;
      reserved = search rules;
      left = p.number;
      size = less_size c.minus-left_size.result n.left_size c.hide_at-left.result.less (entries (tree_in a n.left))
          (entries (tree_in b (Some c.hide_at-left.result.top))) c.minus-left_size.ensures p.less o.size;
      balanced = (omega (arith, o.balanced.2, p.height, e), omega (arith, o.balanced.3, p.height, e));
      few = omega (arith, whole, f, k, c.requires.few, long);
    }

pub copy_right-top-requires : goal.copy_right-top-requires
copy_right-top-requires t c =
    let a = c.args.nodes.now in
    let b = c.hide_at-right.new.nodes in
    let n = c.look-node.result in
    let o = c.look-node.ensures in
    let p = c.hide_at-right.ensures in
    let e = ap height (p.adds.same n.left o.left) in
    let sound = sound_node a n o.left o.right o.size o.known.0 o.balanced in
    record {
      sound = p.adds.sound;
      at = still_there a b _ c.in-Some.at n p.adds o.node;
      node = (node_stays a b _ n p.adds sound).0;
      reserved = search rules;
      right = p.number;
      balanced = (omega (arith, o.balanced.2, p.height, e), omega (arith, o.balanced.3, p.height, e));
    }

pub returns-in-None-clause-rank : goal.returns-in-None-clause-rank
returns-in-None-clause-rank t c =
    let a = c.args.nodes.now in
    let n = c.look-node.result in
    before_here n.left_size _ (tree_in a n.left) (tree_in a n.right) n.entry c.args.path.now
    (ap (tree_in a) c.in-Some.is ∙ c.look-node.ensures.tree) c.in-None.ensures.cases c.look-node.ensures.size

pub through-rank-requires : goal.through-rank-requires
through-rank-requires t c =
    let a = c.args.nodes.now in
    let n = c.look-node.result in
    let small = before_small n.left_size c.hide_at-right.result.rank _ (tree_in a n.left) (tree_in a n.right) n.entry
    c.in-Some-Right-default.rest.now (ap (tree_in a) c.in-Some.is ∙ c.look-node.ensures.tree) c.requires.few c.look-node.ensures.size
    c.hide_at-right.ensures.rank in
    record { shown = small.0; units = small.1 }

pub returns-in-Some-Right-default-clause-rank : goal.returns-in-Some-Right-default-clause-rank
returns-in-Some-Right-default-clause-rank t c =
    let a = c.args.nodes.now in
    let n = c.look-node.result in
    let down = c.in-Some-Right-default.rest.now in
    let way : c.args.path.now ≡ Right ∷ down =
    cc (c.in-Some-Right-default.ensures.cases.0, c.in-Some-Right-default.field-0-0-is) in
    before_right c.through-rank.result n.left_size c.hide_at-right.result.rank _ (tree_in a n.left) (tree_in a n.right) n.entry _ down
    (ap (tree_in a) c.in-Some.is ∙ c.look-node.ensures.tree) way c.through-rank.ensures c.look-node.ensures.size
    c.hide_at-right.ensures.rank
