-- What is kept beside a tree's link.
use Rattle.std.specs.Prelude.{◌≡◌, ℕ, length, Option, None, IsSome}
use Rattle.counted_tree.specs.declared.insert.branch.Branch.{Branch}
use Rattle.counted_tree.specs.Internal.Keys.{least_key}
use Rattle.counted_tree.specs.Internal.Tree.{Tree, entries, height}
use Rattle.counted_tree.specs.Internal.Tree.Tree.{Leaf, Fork}
use Rattle.counted_tree.specs.Internal.Arena.{IsLinkBelow}
use Rattle.counted_tree.specs.Internal.Store.{Store}
use Rattle.counted_tree.specs.Internal.Change.{tree_in}

-- the tree is empty and there is no link; or there is one, and this is the element at the top
abbrev pub IsTopOf : Option ℕ → ℕ → Tree → Type 0
IsTopOf link e Leaf = link ≡ None
IsTopOf link e (Fork l x r) = IsSome link × (e ≡ x.elem)

-- what the branch tells of the tree is so
pub record IsBranchOf (b : Branch) (t : Tree) : Type 0 where
  pub top : IsTopOf b.link b.elem t
  pub least : b.least ≡ least_key (entries t)
  pub height : b.height ≡ height t

-- the link names a tree of the store, and the branch tells what is so of it
pub record IsBranch (a : Store) (b : Branch) : Type 0 where
  pub link : IsLinkBelow (length a.nodes) b.link
  pub tells : IsBranchOf b (tree_in a b.link)
