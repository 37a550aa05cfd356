-- One more node, and one change after another.
use Rattle.std.proofs.Common.{◌≡◌, ℕ, ◌+◌, ◌≤◌, [], ◌∷◌, ◌++◌, length, Some, sym, ap, ◌∙◌, arith, subst}
use Rattle.std.proofs.lemmas.List.{length_push}
use Rattle.std.proofs.lemmas.Option.{slice_get_within}
use Rattle.std.specs.List.{slice_get}
use Rattle.counted_tree.specs.declared.entry.Entry.{Entry}
use Rattle.counted_tree.specs.Internal.Keys.{IsSmall}
use Rattle.counted_tree.specs.Internal.Size.{IsSizeOf}
use Rattle.counted_tree.specs.Internal.Tree.{Tree, entries, height, IsBalanced}
use Rattle.counted_tree.specs.Internal.Tree.Tree.{Fork}
use Rattle.counted_tree.specs.Internal.Arena.{IsLinkBelow, IsSoundNode, AreSound, trees, linked, tree_of}
use Rattle.counted_tree.specs.Internal.Change.{Adds, tree_in}
use Rattle.counted_tree.specs.Internal.Store.{Store}
use Rattle.counted_tree.specs.declared.kept.node.Node.{Node}
use Rattle.counted_tree.proofs.EarlierTrees.{AreSoundAfter-push, linked-push, linked-pushed, link_later, length-trees}
use Rattle.counted_tree.proofs.EarlierTrees.{linked_balanced, sound_later}
use Rattle.counted_tree.proofs.Places.{get_front}

-- a node over two links to earlier ones
pub sound_node : (a : Store) (n : Node) → IsLinkBelow (length a.nodes) n.left → IsLinkBelow (length a.nodes) n.right
    → IsSizeOf n.left_size (entries (tree_in a n.left)) → IsSmall n.entry → IsBalanced (tree_of (trees a.nodes) n)
    → IsSoundNode (trees a.nodes) n
sound_node a n l r size small balanced = record {
  left_earlier = link_later _ _ n.left (omega (arith, length-trees a.nodes)) l;
  right_earlier = link_later _ _ n.right (omega (arith, length-trees a.nodes)) r;
  left_size = size;
  small = small;
  balanced = balanced;
}

-- a node in place of another, whose two sides have the same height
pub sound_again : (a : Store) (n : Node) (l r : Tree) (x : Entry) → AreSound a.nodes → IsLinkBelow (length a.nodes) n.left
    → IsLinkBelow (length a.nodes) n.right → IsSizeOf n.left_size (entries (tree_in a n.left)) → IsSmall n.entry → IsBalanced (Fork l x r)
    → height (tree_in a n.left) ≡ height l → height (tree_in a n.right) ≡ height r → IsSoundNode (trees a.nodes) n
sound_again a n l r x sound hl hr size small balanced same_left same_right = sound_node a n hl hr size small (
  linked_balanced a.nodes n.left sound hl,
  linked_balanced a.nodes n.right sound hr,
  omega (arith, balanced.2, same_left, same_right),
  omega (arith, balanced.3, same_left, same_right),
)

pub adds_push : (a b : Store) (n : Node) → AreSound a.nodes → IsSoundNode (trees a.nodes) n → b.nodes ≡ a.nodes ++ n ∷ []
    → b.reserved_nodes + 1 ≡ a.reserved_nodes
    → b.keys_and_widths ≡ a.keys_and_widths → b.reserved_keys_and_widths ≡ a.reserved_keys_and_widths → Adds a b 1
adds_push a b n sound node nodes reserved keys_and_widths reserved_keys_and_widths =
    let long : length b.nodes ≡ length a.nodes + 1 = ap length nodes ∙ length_push a.nodes n in
    record {
      longer = omega arith;
      at_most = omega arith;
      reserve = omega arith;
      sound = subst AreSound (sym nodes) (AreSoundAfter-push [] a.nodes n sound node);
      stays = λ i h. ap (λ ns. slice_get ns i) nodes ∙ get_front a.nodes (n ∷ []) i h;
      keys_and_widths = keys_and_widths;
      reserved_keys_and_widths = reserved_keys_and_widths;
      same = λ l h. ap (λ ns. linked (trees ns) l) nodes ∙ linked-push a.nodes n l h;
    }

pub tree_pushed : (a b : Store) (n : Node) (k : ℕ) → b.nodes ≡ a.nodes ++ n ∷ [] → k ≡ length a.nodes
    → tree_in b (Some k) ≡ tree_of (trees a.nodes) n
tree_pushed a b n k nodes e = ap (λ ns. linked (trees ns) (Some k)) nodes ∙ linked-pushed a.nodes n k e

-- a node of before stays sound, and its tree what it was
pub node_stays : (a b : Store) (k : ℕ) (n : Node) → Adds a b k → IsSoundNode (trees a.nodes) n
    → IsSoundNode (trees b.nodes) n × (tree_of (trees b.nodes) n ≡ tree_of (trees a.nodes) n)
node_stays a b k n p node =
    sound_later (trees a.nodes) (trees b.nodes) n (omega (arith, p.longer, length-trees a.nodes, length-trees b.nodes))
    (λ l h. p.same l (link_later _ _ l (omega (arith, length-trees a.nodes)) h)) node

pub adds_both : (a b d : Store) (j k most : ℕ) → Adds a b j → Adds b d k → length d.nodes ≤ length a.nodes + most → Adds a d most
adds_both a b d j k most p q few = record {
  longer = omega (arith, p.longer, q.longer);
  at_most = few;
  reserve = q.reserve ∙ p.reserve;
  sound = q.sound;
  stays = λ i h. q.stays i (omega (arith, p.longer, h)) ∙ p.stays i h;
  keys_and_widths = q.keys_and_widths ∙ p.keys_and_widths;
  reserved_keys_and_widths = q.reserved_keys_and_widths ∙ p.reserved_keys_and_widths;
  same = λ l h. q.same l (link_later _ _ l p.longer h) ∙ p.same l h;
}

-- a node of before still stands where it stood
pub still_there : (a b : Store) (k i : ℕ) (n : Node) → Adds a b k → slice_get a.nodes i ≡ Some n → slice_get b.nodes i ≡ Some n
still_there a b k i n p before = p.stays i (slice_get_within a.nodes i n before) ∙ before

-- and is the same when it is read again
pub read_again : (a b : Store) (k i : ℕ) (n m : Node) → Adds a b k → slice_get a.nodes i ≡ Some n → slice_get b.nodes i ≡ Some m → m ≡ n
read_again a b k i n m p before after =
    let same : Some m ≡ Some n = sym after ∙ still_there a b k i n p before in
    cc
