-- What a path down a tree leads to.
use Rattle.std.specs.Prelude.{ℕ, List, [], ◌∷◌, ◌++◌, false, Option, Some, None, option_map}
use Rattle.counted_tree.specs.declared.entry.Entry.{Entry}
use Rattle.counted_tree.specs.declared.kept.side.Side.{Side}
use Rattle.counted_tree.specs.declared.kept.side.Side.TheVariants.{Left, Right}
use Rattle.counted_tree.specs.Internal.Tree.{Tree, entries}
use Rattle.counted_tree.specs.Internal.Tree.Tree.{Leaf, Fork}

-- a side of a tree
abbrev pub turned : Tree → Side → Tree
turned Leaf side = Leaf
turned (Fork l x r) Left = l
turned (Fork l x r) Right = r

-- the part of a tree that the path leads to
abbrev pub under : Tree → List Side → Tree
under t [] = t
under t (side ∷ path) = under (turned t side) path

-- the entry that the path leads to
abbrev pub entry_at : Tree → List Side → Option Entry
entry_at Leaf path = None
entry_at (Fork l x r) [] = Some x
entry_at (Fork l x r) (Left ∷ path) = entry_at l path
entry_at (Fork l x r) (Right ∷ path) = entry_at r path

-- the entries, with a further one right after it
abbrev pub inserted_at : Tree → List Side → Entry → List Entry
inserted_at Leaf path new = new ∷ []
inserted_at (Fork l x r) [] new = entries l ++ x ∷ new ∷ entries r
inserted_at (Fork l x r) (Left ∷ path) new = inserted_at l path new ++ x ∷ entries r
inserted_at (Fork l x r) (Right ∷ path) new = entries l ++ x ∷ inserted_at r path new

-- the entries, with that one hidden
abbrev pub hidden_at : Tree → List Side → List Entry
hidden_at Leaf path = []
hidden_at (Fork l x r) [] = entries l ++ record x { shown = false } ∷ entries r
hidden_at (Fork l x r) (Left ∷ path) = hidden_at l path ++ x ∷ entries r
hidden_at (Fork l x r) (Right ∷ path) = entries l ++ x ∷ hidden_at r path

-- the tree with that entry hidden
abbrev pub veiled_at : Tree → List Side → Tree
veiled_at Leaf path = Leaf
veiled_at (Fork l x r) [] = Fork l (record x { shown = false }) r
veiled_at (Fork l x r) (Left ∷ path) = Fork (veiled_at l path) x r
veiled_at (Fork l x r) (Right ∷ path) = Fork l x (veiled_at r path)

-- the entries before it
abbrev pub before_at : Tree → List Side → List Entry
before_at Leaf path = []
before_at (Fork l x r) [] = entries l
before_at (Fork l x r) (Left ∷ path) = before_at l path
before_at (Fork l x r) (Right ∷ path) = entries l ++ x ∷ before_at r path

-- the entries after it
abbrev pub after_at : Tree → List Side → List Entry
after_at Leaf path = []
after_at (Fork l x r) [] = entries r
after_at (Fork l x r) (Left ∷ path) = after_at l path ++ x ∷ entries r
after_at (Fork l x r) (Right ∷ path) = after_at r path

-- its element
abbrev pub elem_at : Tree → List Side → Option ℕ
elem_at t path = option_map (λ x. x.elem) (entry_at t path)
