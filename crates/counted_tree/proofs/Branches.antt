-- What a branch tells of a fork, and of its row in the newest tree's table.
use Rattle.std.proofs.Common.{◌≡◌, ℕ, ◌+◌, ◌<◌, ◌≤◌, List, length, get_or, Option, None, Some, max, min, refl, sym, ap, ◌∙◌, subst, arith}
use Rattle.std.specs.Prelude.{◌^◌}
use Rattle.std.proofs.lemmas.Option.{get_or_from_slice_get, slice_get_within}
use Rattle.std.specs.Option.{IfSome}
use Rattle.counted_tree.specs.declared.insert.branch.Branch.{Branch}
use Rattle.counted_tree.specs.declared.entry.Entry.{Entry}
use Rattle.counted_tree.specs.declared.kept.node.Node.{Node}
use Rattle.counted_tree.specs.Internal.Size.{IsSizeOf}
use Rattle.counted_tree.specs.Internal.Keys.{least_key}
use Rattle.counted_tree.specs.Internal.Arena.{AreSound}
use Rattle.counted_tree.specs.declared.kept.row.Row.{Row}
use Rattle.counted_tree.specs.Internal.Tree.{Tree, entries, height, IsBalanced}
use Rattle.counted_tree.specs.Internal.Tree.Tree.{Leaf, Fork}
use Rattle.counted_tree.specs.Internal.Store.{Store}
use Rattle.counted_tree.specs.Internal.Change.{tree_in}
use Rattle.counted_tree.specs.Internal.Branch.{IsBranchOf, IsBranch}
use Rattle.counted_tree.specs.Internal.Table.{row_of, PointsTo, HasRow}
use Rattle.counted_tree.proofs.EarlierTrees.{linked_balanced}
use Rattle.counted_tree.proofs.Counts.{height_small, least_within, least-fork}
use Rattle.counted_tree.proofs.Tables.{IsTopBelow}

-- the branch of a fork
pub branch_over : (l r : Branch) (x : Entry) (least high number : ℕ) (s t : Tree) → IsBranchOf l s → IsBranchOf r t
    → least ≡ min (min l.least x.key) r.least → high ≡ max l.height r.height + 1
    → IsBranchOf (record { link = Some number; elem = x.elem; least = least; height = high }) (Fork s x t)
branch_over l r x least high number s t hl hr el eh = record {
  top = (refl, refl);
  least = omega (arith, el, hl.least, hr.least, least-fork (entries s) (entries t) x);
  height = omega (arith, eh, hl.height, hr.height);
}

-- its element's row is that of its tree's top
row_if : (o : Option ℕ) (e n : ℕ) → e < n → IfSome o (λ _. e < n)
row_if None e n h = tt
row_if (Some k) e n h = h

pub row_of_branch : (b : Branch) (t : Tree) (n : ℕ) → IsBranchOf b t → IsTopBelow n t → IfSome b.link (λ _. b.elem < n)
row_of_branch b Leaf n h k = subst (λ o. IfSome o (λ _. b.elem < n)) (sym h.top) tt
row_of_branch b (Fork l x r) n h k = row_if b.link b.elem n (omega (arith, h.top.1, k))

-- its numbers are small
pub branch_small : (a : Store) (b : Branch) → AreSound a.nodes → IsBranch a b → length (entries (tree_in a b.link)) ≤ 131072
    → (b.least ≤ 2 ^ 23) × (b.height ≤ 25)
branch_small a b sound h few =
    let t = tree_in a b.link in (
      omega (arith, h.tells.least, least_within (entries t)),
      omega (arith, h.tells.height, height_small t (linked_balanced a.nodes b.link sound h.link) few),
    )

-- the row of a fork that the table has is what is read of it
pub read_row : (tb : List Row) (t l r : Tree) (x : Entry) (w d : Row) → t ≡ Fork l x r → HasRow tb t → w ≡ get_or tb x.elem d
    → (w.least ≡ least_key (entries t)) × (w.height ≡ height t)
read_row tb t l r x w d e has read =
    let p = subst (λ u. PointsTo tb u has.0) e has.1 in
    let same = read ∙ get_or_from_slice_get tb x.elem (row_of (Fork l x r) has.0) d p in
    (ap (λ (v : Row). v.least) same ∙ ap (λ u. least_key (entries u)) (sym e), ap (λ (v : Row). v.height) same ∙ ap height (sym e))

pub row_there : (tb : List Row) (t l r : Tree) (x : Entry) → t ≡ Fork l x r → HasRow tb t → x.elem < length tb
row_there tb t l r x e has =
    slice_get_within tb x.elem (row_of (Fork l x r) has.0) (subst (λ u. PointsTo tb u has.0) e has.1)

-- a node's tree by the branches of its two sides
pub record AreSides (a : Store) (t : Tree) (n : Node) (l r : Branch) : Type 0 where
  pub whole : t ≡ Fork (tree_in a l.link) n.entry (tree_in a r.link)
  pub balanced : IsBalanced (Fork (tree_in a l.link) n.entry (tree_in a r.link))
  pub size : IsSizeOf n.left_size (entries (tree_in a l.link))

pub sides : (a : Store) (o : Option ℕ) (i : ℕ) (n : Node) (l r : Branch) → o ≡ Some i
    → tree_in a (Some i) ≡ Fork (tree_in a n.left) n.entry (tree_in a n.right)
    → IsBalanced (Fork (tree_in a n.left) n.entry (tree_in a n.right)) → IsSizeOf n.left_size (entries (tree_in a n.left))
    → l.link ≡ n.left → r.link ≡ n.right → AreSides a (tree_in a o) n l r
sides a o i n l r at tree balanced size el er = record {
  whole = ap (tree_in a) at ∙ tree ∙ cc (el, er);
  balanced = rw (el, er) balanced;
  size = rw el size;
}
