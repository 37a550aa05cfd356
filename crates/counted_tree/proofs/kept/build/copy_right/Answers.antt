use Rattle.std.proofs.Common.{Some}
use Rattle.std.proofs.lemmas.Option.{slice_get_within}
use Rattle.counted_tree.proofs.Copies.{copied_right}
use Rattle.counted_tree.proofs.kept.build.copy_right.Goals as goal

pub push_with_right-requires-clause-number : goal.push_with_right-requires-clause-number
push_with_right-requires-clause-number c = slice_get_within c.args.nodes.now.nodes c.args.at c.args.node c.requires.at

pub returns : goal.returns
returns c =
    let p = c.push_with_right.ensures in
    let copied = copied_right c.args.nodes.now c.push_with_right.new.self c.args.node (Some c.args.right) c.push_with_right.result
    c.requires.sound c.requires.node c.requires.right c.requires.balanced (p.nodes c.args.node c.requires.at)
    p.reserved p.keys_and_widths p.reserved_keys_and_widths p.number in
    record { adds = copied.adds; count = copied.count; number = copied.number; tree = copied.tree }
