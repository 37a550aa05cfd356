-- What a node tells of its own tree.
use Rattle.std.proofs.Common.{◌≡◌, ℕ, Bool, true, false, cond, List, length, Some, sym, ◌∙◌, arith}
use Rattle.counted_tree.specs.declared.entry.Entry.{Entry}
use Rattle.counted_tree.specs.declared.size.Size.{Size}
use Rattle.counted_tree.specs.Entry.{items}
use Rattle.counted_tree.specs.Internal.Keys.{IsSmall}
use Rattle.counted_tree.specs.Internal.Size.{IsSizeOf}
use Rattle.counted_tree.specs.Internal.Store.{Store}
use Rattle.counted_tree.specs.Internal.Tree.{entries}
use Rattle.counted_tree.specs.declared.kept.node.Node.{Node}
use Rattle.std.specs.List.{slice_get}
use Rattle.counted_tree.specs.Internal.Tree.{IsBalanced}
use Rattle.counted_tree.specs.Internal.Tree.Tree.{Fork}
use Rattle.counted_tree.specs.Internal.Arena.{IsLinkBelow, AreSound}
use Rattle.counted_tree.specs.Internal.Change.{tree_in}
use Rattle.counted_tree.proofs.EarlierTrees.{reads, link_later, length-trees}
use Rattle.counted_tree.proofs.Counts.{length-items}

-- how many places are taken
pub sized_items : (u : Bool) (s : Size) (xs : List Entry) → IsSizeOf s xs → cond u s.units s.shown ≡ length (items u xs)
sized_items true s xs h = h.1
sized_items false s xs h = h.0 ∙ sym (length-items xs)

-- the two parts of a node's tree, as links
pub record IsOpened (a : Store) (i : ℕ) (n : Node) : Type 0 where
  pub left : IsLinkBelow (length a.nodes) n.left
  pub right : IsLinkBelow (length a.nodes) n.right
  pub tree : tree_in a (Some i) ≡ Fork (tree_in a n.left) n.entry (tree_in a n.right)
  pub balanced : IsBalanced (Fork (tree_in a n.left) n.entry (tree_in a n.right))
  pub small : IsSmall n.entry
  pub size : IsSizeOf n.left_size (entries (tree_in a n.left))

pub opened : (a : Store) (i : ℕ) (n : Node) → AreSound a.nodes → slice_get a.nodes i ≡ Some n → IsOpened a i n
opened a i n s e =
    let r = reads a.nodes i n s e in
    record {
      left = link_later _ _ n.left (omega (arith, length-trees a.nodes)) r.sound.left_earlier;
      right = link_later _ _ n.right (omega (arith, length-trees a.nodes)) r.sound.right_earlier;
      tree = r.tree;
      balanced = r.sound.balanced;
      small = r.sound.small;
      size = r.sound.left_size;
    }
