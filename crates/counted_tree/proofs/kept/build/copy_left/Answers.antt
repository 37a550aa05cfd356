use Rattle.std.proofs.Common.{Some, arith}
use Rattle.std.proofs.lemmas.Option.{slice_get_within}
use Rattle.counted_tree.specs.Internal.Tree.{entries}
use Rattle.counted_tree.specs.Internal.Change.{tree_in}
use Rattle.counted_tree.proofs.Copies.{copied_left}
use Rattle.counted_tree.proofs.Counts.{units_few}
use Rattle.counted_tree.proofs.Sizes.{size_few}
use Rattle.counted_tree.proofs.kept.build.copy_left.Goals as goal

pub push_with_left-requires : goal.push_with_left-requires
push_with_left-requires c =
    let s = entries (tree_in c.args.nodes.now (Some c.args.left)) in
    let few = size_few c.args.size s c.requires.size in
    let some = units_few s in
    record {
      reserved = c.requires.reserved;
      number = slice_get_within c.args.nodes.now.nodes c.args.at c.args.node c.requires.at;
      left = c.requires.left;
      shown = omega (arith, few.0, c.requires.few);
      units = omega (arith, some.0, c.requires.size);
      wide = omega (arith, few.0, some.1, c.requires.size, c.requires.few);
    }

pub returns : goal.returns
returns c =
    let p = c.push_with_left.ensures in
    let copied = copied_left c.args.nodes.now c.push_with_left.new.self c.args.node (Some c.args.left) c.args.size c.push_with_left.result
    c.requires.sound c.requires.node c.requires.left c.requires.balanced c.requires.size (p.nodes c.args.node c.requires.at)
    p.reserved p.keys_and_widths p.reserved_keys_and_widths p.number in
    record { adds = copied.adds; count = copied.count; number = copied.number; tree = copied.tree }
