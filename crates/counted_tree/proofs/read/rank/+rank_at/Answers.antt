use Rattle.std.proofs.Common.{◌≡◌, ◌∷◌, ap, ◌∙◌}
use Rattle.counted_tree.specs.declared.kept.side.Side.TheVariants.{Right}
use Rattle.counted_tree.specs.Internal.Change.{tree_in}
use Rattle.counted_tree.proofs.Ranks.{before_here, before_right, before_small}
use Rattle.counted_tree.proofs.read.rank.+rank_at.Goals as goal

pub returns-in-None-clause-size : goal.returns-in-None-clause-size
returns-in-None-clause-size t c =
    let a = c.args.nodes.now in
    let n = c.look-node.result in
    before_here n.left_size _ (tree_in a n.left) (tree_in a n.right) n.entry c.args.path.now
    (ap (tree_in a) c.in-Some.is ∙ c.look-node.ensures.tree) c.in-None.ensures.cases c.look-node.ensures.size

pub through-requires : goal.through-requires
through-requires t c =
    let a = c.args.nodes.now in
    let n = c.look-node.result in
    let small = before_small n.left_size c.rank_at-more.result _ (tree_in a n.left) (tree_in a n.right) n.entry
    c.in-Some-Right-default.rest.now (ap (tree_in a) c.in-Some.is ∙ c.look-node.ensures.tree) c.requires.few c.look-node.ensures.size
    c.rank_at-more.ensures.size in
    record { shown = small.0; units = small.1 }

pub returns-in-Some-Right-default-clause-size : goal.returns-in-Some-Right-default-clause-size
returns-in-Some-Right-default-clause-size t c =
    let a = c.args.nodes.now in
    let n = c.look-node.result in
    let down = c.in-Some-Right-default.rest.now in
    let way : c.args.path.now ≡ Right ∷ down =
    cc (c.in-Some-Right-default.ensures.cases.0, c.in-Some-Right-default.field-0-0-is) in
    before_right c.through.result n.left_size c.rank_at-more.result _ (tree_in a n.left) (tree_in a n.right) n.entry _ down
    (ap (tree_in a) c.in-Some.is ∙ c.look-node.ensures.tree) way c.through.ensures c.look-node.ensures.size c.rank_at-more.ensures.size
