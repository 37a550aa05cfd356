-- A copy of a node with another side, which is about as high as the one that stays.
use Rattle.std.proofs.Common.{◌≡◌, ℕ, ◌+◌, ◌<◌, [], ◌∷◌, ◌++◌, length, Option, Some, ap, ◌∙◌, arith}
use Rattle.std.proofs.lemmas.List.{length_push}
use Rattle.counted_tree.specs.declared.kept.node.Node.{Node}
use Rattle.counted_tree.specs.declared.size.Size.{Size}
use Rattle.counted_tree.specs.Internal.Size.{IsSizeOf}
use Rattle.counted_tree.specs.Internal.Store.{Store}
use Rattle.counted_tree.specs.Internal.Tree.{entries, height}
use Rattle.counted_tree.specs.Internal.Arena.{IsLinkBelow, IsSoundNode, AreSound, trees, tree_of}
use Rattle.counted_tree.specs.Internal.Change.{tree_in, Adds, DifferByAtMost}
use Rattle.counted_tree.proofs.NodeAdditions.{adds_push, sound_node, tree_pushed}
use Rattle.counted_tree.proofs.EarlierTrees.{length-trees, link_later, linked_balanced}

-- the node was appended as the one with this number
pub record IsAppended (a b : Store) (n : Node) (k : ℕ) : Type 0 where
  pub adds : Adds a b 1
  pub count : length b.nodes ≡ length a.nodes + 1
  pub number : k < length b.nodes
  pub tree : tree_in b (Some k) ≡ tree_of (trees a.nodes) n

appended : (a b : Store) (n : Node) (k : ℕ) → AreSound a.nodes → IsSoundNode (trees a.nodes) n → b.nodes ≡ a.nodes ++ n ∷ []
    → b.reserved_nodes + 1 ≡ a.reserved_nodes → b.keys_and_widths ≡ a.keys_and_widths
    → b.reserved_keys_and_widths ≡ a.reserved_keys_and_widths
    → k ≡ length a.nodes → IsAppended a b n k
appended a b n k sound node nodes reserved keys_and_widths reserved_keys_and_widths number =
    let long : length b.nodes ≡ length a.nodes + 1 = ap length nodes ∙ length_push a.nodes n in
    record {
      adds = adds_push a b n sound node nodes reserved keys_and_widths reserved_keys_and_widths;
      count = long;
      number = omega (arith, long, number);
      tree = tree_pushed a b n k nodes number;
    }

pub copied_left : (a b : Store) (n : Node) (s : Option ℕ) (size : Size) (k : ℕ) → AreSound a.nodes → IsSoundNode (trees a.nodes) n
    → IsLinkBelow (length a.nodes) s → DifferByAtMost 1 (height (tree_in a s)) (height (tree_in a n.right))
    → IsSizeOf size (entries (tree_in a s)) → b.nodes ≡ a.nodes ++ record n { left = s; left_size = size } ∷ []
    → b.reserved_nodes + 1 ≡ a.reserved_nodes → b.keys_and_widths ≡ a.keys_and_widths
    → b.reserved_keys_and_widths ≡ a.reserved_keys_and_widths
    → k ≡ length a.nodes → IsAppended a b (record n { left = s; left_size = size }) k
copied_left a b n s size k sound node below near shows =
    let right = link_later _ _ n.right (omega (arith, length-trees a.nodes)) node.right_earlier in
    appended a b (record n { left = s; left_size = size }) k sound
    (sound_node a (record n { left = s; left_size = size }) below right shows
    node.small (linked_balanced a.nodes s sound below, node.balanced.1, near.0, near.1))

pub copied_right : (a b : Store) (n : Node) (s : Option ℕ) (k : ℕ) → AreSound a.nodes → IsSoundNode (trees a.nodes) n
    → IsLinkBelow (length a.nodes) s → DifferByAtMost 1 (height (tree_in a n.left)) (height (tree_in a s))
    → b.nodes ≡ a.nodes ++ record n { right = s } ∷ []
    → b.reserved_nodes + 1 ≡ a.reserved_nodes → b.keys_and_widths ≡ a.keys_and_widths
    → b.reserved_keys_and_widths ≡ a.reserved_keys_and_widths
    → k ≡ length a.nodes → IsAppended a b (record n { right = s }) k
copied_right a b n s k sound node below near =
    let left = link_later _ _ n.left (omega (arith, length-trees a.nodes)) node.left_earlier in
    appended a b (record n { right = s }) k sound (sound_node a (record n { right = s }) left below node.left_size node.small
    (node.balanced.0, linked_balanced a.nodes s sound below, near.0, near.1))
