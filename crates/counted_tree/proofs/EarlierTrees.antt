-- A further node changes none of the trees before it.
use Rattle.std.proofs.Common.{◌≡◌, ℕ, zero, suc, ◌+◌, ◌≤◌, ◌<◌, List, [], ◌∷◌, ◌++◌, length, get_or, Option, Some, None, inl, inr, refl}
use Rattle.std.proofs.Common.{sym, ◌∙◌, ap, subst, arith}
use Rattle.std.proofs.lemmas.List.{length_push, get_or_append_left, get_or_push}
use Rattle.std.proofs.lemmas.Option.{slice_get_cases}
use Rattle.std.specs.List.{slice_get}
use Rattle.counted_tree.specs.Internal.Tree.{Tree, IsBalanced}
use Rattle.counted_tree.specs.Internal.Tree.Tree.{Leaf}
use Rattle.counted_tree.specs.Internal.Arena.{linked, tree_of, trees_after, trees, IsLinkBelow, IsSoundNode, AreSoundAfter, AreSound}
use Rattle.counted_tree.specs.declared.kept.node.Node.{Node}

pub length-trees_after : (ts : List Tree) (ns : List Node) → length (trees_after ts ns) ≡ length ts + length ns
length-trees_after ts [] = omega arith
length-trees_after ts (n ∷ ns) = omega (arith, length-trees_after (ts ++ tree_of ts n ∷ []) ns, length_push ts (tree_of ts n))

pub length-trees : (ns : List Node) → length (trees ns) ≡ length ns
length-trees ns = omega (arith, length-trees_after [] ns)

-- the trees so far stay
kept : (ts : List Tree) (ns : List Node) (k : ℕ) → k < length ts → get_or (trees_after ts ns) k Leaf ≡ get_or ts k Leaf
kept ts [] k h = refl
kept ts (n ∷ ns) k h = kept (ts ++ tree_of ts n ∷ []) ns k (omega (arith, length_push ts (tree_of ts n)))
    ∙ get_or_append_left ts (tree_of ts n ∷ []) Leaf k h

linked_kept : (ts : List Tree) (ns : List Node) (l : Option ℕ) → IsLinkBelow (length ts) l → linked (trees_after ts ns) l ≡ linked ts l
linked_kept ts ns None h = refl
linked_kept ts ns (Some k) h = kept ts ns k h

pub link_later : (m n : ℕ) (l : Option ℕ) → m ≤ n → IsLinkBelow m l → IsLinkBelow n l
link_later m n None p h = tt
link_later m n (Some k) p h = omega arith

pub trees_after-push : (ts : List Tree) (ns : List Node) (n : Node)
    → trees_after ts (ns ++ n ∷ []) ≡ trees_after ts ns ++ tree_of (trees_after ts ns) n ∷ []
trees_after-push ts [] n = refl
trees_after-push ts (m ∷ ns) n = trees_after-push (ts ++ tree_of ts m ∷ []) ns n

-- a link to an earlier node names the same tree after a push
pub linked-push : (ns : List Node) (n : Node) (l : Option ℕ) → IsLinkBelow (length ns) l
    → linked (trees (ns ++ n ∷ [])) l ≡ linked (trees ns) l
linked-push ns n None h = refl
linked-push ns n (Some k) h = ap (λ ts. get_or ts k Leaf) (trees_after-push [] ns n)
    ∙ get_or_append_left (trees ns) (tree_of (trees ns) n ∷ []) Leaf k (omega (arith, length-trees ns))

-- and the new node's link names its tree
pub linked-pushed : (ns : List Node) (n : Node) (k : ℕ) → k ≡ length ns → linked (trees (ns ++ n ∷ [])) (Some k) ≡ tree_of (trees ns) n
linked-pushed ns n k e = ap (λ ts. get_or ts k Leaf) (trees_after-push [] ns n)
    ∙ get_or_push (trees ns) (tree_of (trees ns) n) Leaf k (omega (arith, length-trees ns))

pub AreSoundAfter-push : (ts : List Tree) (ns : List Node) (n : Node) → AreSoundAfter ts ns → IsSoundNode (trees_after ts ns) n
    → AreSoundAfter ts (ns ++ n ∷ [])
AreSoundAfter-push ts [] n s h = (h, tt)
AreSoundAfter-push ts (m ∷ ns) n s h = (s.0, AreSoundAfter-push (ts ++ tree_of ts m ∷ []) ns n s.1 h)

-- what a node tells stays so among more trees
pub sound_later : (ts us : List Tree) (n : Node) → length ts ≤ length us
    → ((l : Option ℕ) → IsLinkBelow (length ts) l → linked us l ≡ linked ts l) → IsSoundNode ts n
    → IsSoundNode us n × (tree_of us n ≡ tree_of ts n)
sound_later ts us n p same s =
    let left = same n.left s.left_earlier in
    let right = same n.right s.right_earlier in
    let tree : tree_of us n ≡ tree_of ts n = cc in (
      record {
        left_earlier = link_later _ _ n.left p s.left_earlier;
        right_earlier = link_later _ _ n.right p s.right_earlier;
        left_size = rw left s.left_size;
        small = s.small;
        balanced = subst IsBalanced (sym tree) s.balanced;
      },
      tree,
    )

-- what reading the node with number i tells
pub record Reads (ts : List Tree) (i : ℕ) (n : Node) : Type 0 where
  pub tree : get_or ts i Leaf ≡ tree_of ts n
  pub sound : IsSoundNode ts n

reads_after : (ts : List Tree) (ns : List Node) (i : ℕ) (n : Node) → AreSoundAfter ts ns → slice_get ns i ≡ Some n
    → Reads (trees_after ts ns) (length ts + i) n
reads_after ts [] i n s e = absurd (cc)
reads_after ts (m ∷ ns) zero n s e =
    let same : m ≡ n = cc in
    let us = trees_after (ts ++ tree_of ts m ∷ []) ns in
    let long : length ts ≤ length us = omega (arith, length-trees_after (ts ++ tree_of ts m ∷ []) ns, length_push ts (tree_of ts m)) in
    let keeps = λ (l : Option ℕ) (h : IsLinkBelow (length ts) l). linked_kept ts (m ∷ ns) l h in
    let later = sound_later ts us m long keeps s.0 in
    let at : get_or us (length ts + 0) Leaf ≡ tree_of ts m =
    kept (ts ++ tree_of ts m ∷ []) ns (length ts + 0) (omega (arith, length_push ts (tree_of ts m)))
    ∙ get_or_push ts (tree_of ts m) Leaf (length ts + 0) (omega arith) in
    subst (Reads us (length ts + 0)) same (record { tree = at ∙ sym later.1; sound = later.0 })
reads_after ts (m ∷ ns) (suc i) n s e =
    let e2 : length (ts ++ tree_of ts m ∷ []) + i ≡ length ts + suc i = omega (arith, length_push ts (tree_of ts m)) in
    subst (λ k. Reads (trees_after ts (m ∷ ns)) k n) e2 (reads_after (ts ++ tree_of ts m ∷ []) ns i n s.1 e)

pub reads : (ns : List Node) (i : ℕ) (n : Node) → AreSound ns → slice_get ns i ≡ Some n → Reads (trees ns) i n
reads ns i n s e = let z : 0 + i ≡ i = omega arith in subst (λ k. Reads (trees ns) k n) z (reads_after [] ns i n s e)

-- each link names a balanced tree
pub linked_balanced : (ns : List Node) (l : Option ℕ) → AreSound ns → IsLinkBelow (length ns) l → IsBalanced (linked (trees ns) l)
linked_balanced ns None s h = tt
linked_balanced ns (Some k) s h = elim ((slice_get_cases ns k).1) [
  | inl w ↦ let r = reads ns k w.0 s w.2 in subst IsBalanced (sym r.tree) r.sound.balanced
  | inr w ↦ absurd (omega (arith, w.0))
]
