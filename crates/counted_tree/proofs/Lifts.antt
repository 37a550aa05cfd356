-- A level of an insertion: the whole, once one of its sides has the further entry.
use Rattle.std.proofs.Common.{◌≡◌, ℕ, ◌+◌, ◌-◌, ◌∷◌, ◌++◌, List, length, Option, Some, refl, sym, ap, ◌∙◌, subst, arith}
use Rattle.std.specs.List.{slice_get}
use Rattle.counted_tree.specs.declared.kept.above.Above.{Above}
use Rattle.counted_tree.specs.declared.entry.Entry.{Entry}
use Rattle.counted_tree.specs.declared.insert.level.Grown.{Grown}
use Rattle.counted_tree.specs.declared.insert.path.Inserted.{Inserted}
use Rattle.counted_tree.specs.declared.kept.node.Node.{Node}
use Rattle.counted_tree.specs.declared.kept.row.Row.{Row}
use Rattle.counted_tree.specs.declared.kept.side.Side.{Side}
use Rattle.counted_tree.specs.declared.kept.side.Side.TheVariants.{Left, Right}
use Rattle.counted_tree.specs.declared.size.Size.{Size}
use Rattle.counted_tree.specs.Internal.Size.{IsSizeOf, through}
use Rattle.counted_tree.specs.Internal.Tree.{entries}
use Rattle.counted_tree.specs.Internal.Tree.Tree.{Fork}
use Rattle.counted_tree.specs.Internal.Arena.{trees, tree_of}
use Rattle.counted_tree.specs.Internal.Store.{Store}
use Rattle.counted_tree.specs.Internal.Change.{tree_in, Adds}
use Rattle.counted_tree.specs.Changes.{before}
use Rattle.counted_tree.specs.Internal.Growth.{IsGrown}
use Rattle.counted_tree.specs.Internal.PathEntries.{inserted_at, turned}
use Rattle.counted_tree.specs.Internal.GrownTree.{grown_link, IsTold}
use Rattle.counted_tree.specs.Internal.Insertion.{IsInserted, IsLift}
use Rattle.counted_tree.specs.Internal.Table.{PointsTo, AreOwn, Hangs}
use Rattle.counted_tree.proofs.Gains.{gains_inserted}
use Rattle.counted_tree.proofs.EarlierTrees.{Reads, reads, length-trees, link_later}
use Rattle.counted_tree.proofs.TableChanges.{hangs_left, hangs_right}
use Rattle.counted_tree.proofs.Levels.{IsUpLeft, IsUpRight, up_left, up_right, whole_left, whole_right, whole_told}
use Rattle.counted_tree.proofs.Paths.{own_along}
use Rattle.counted_tree.proofs.Ranks.{rank_left, rank_right}

-- the node is as it was
pub lift_node : (a b : Store) (tb mid : List Row) (top : ℕ) (side : Side) (path : List Side) (x : Entry) (made : Inserted) (n : Node)
    → IsLift a b tb mid top side path x made → slice_get b.nodes top ≡ Some n → Reads (trees a.nodes) top n
lift_node a b tb mid top side path x made n h o = reads a.nodes top n h.sound (sym (h.side_made.adds.stays top h.below) ∙ o)

module _ (a b : Store) (tb mid : List Row) (top : ℕ) (path : List Side) (x : Entry) (made : Inserted) (n : Node)
    (h : IsLift a b tb mid top Left path x made) (o : slice_get b.nodes top ≡ Some n) where
  below_left : IsInserted a b tb mid (tree_in a n.left) path x made
  below_left = subst (λ u. IsInserted a b tb mid u path x made)
      (ap (λ u. turned u Left) (lift_node a b tb mid top Left path x made n h o).tree) h.side_made

  own_left : AreOwn (length tb) (inserted_at (Fork (tree_in a n.left) n.entry (tree_in a n.right)) (Left ∷ path) x)
  own_left = own_along (length tb) (tree_in a (Some top)) (tree_in a n.left) (tree_in a n.right) n.entry x (Left ∷ path) (Left ∷ path)
      (lift_node a b tb mid top Left path x made n h o).tree refl h.fit.own

  pub lift_up_left : IsUpLeft b tb mid (tree_in a (Some top)) n x (tree_in b (grown_link made.top)) made.top
  lift_up_left =
      let w = below_left in
      let r = lift_node a b tb mid top Left path x made n h o in
      up_left a b _ tb mid (tree_in a (Some top)) (tree_in b (grown_link made.top)) n x made.top (length b.nodes - length a.nodes)
      (inserted_at (tree_in a n.left) path x) w.adds r.sound r.tree h.fit.few own_left h.fit.kept h.fit.row
      (gains_inserted x (tree_in a n.left) path) w.lists w.grown w.hangs w.told

  pub lifted_left : (d : Store) (new : List Row) (g : Grown) → Adds b d 3
      → ((u : Option Above) → PointsTo mid (tree_of (trees b.nodes) n) u → IsTold d new u (tree_of (trees b.nodes) n) g)
      → entries (tree_in d (grown_link g)) ≡ entries (tree_in b (grown_link made.top)) ++ n.entry ∷ entries (tree_in b n.right)
      → ((m : ℕ) → IsGrown (tree_in b n.left) (tree_in b (grown_link made.top)) m
      → IsGrown (tree_of (trees b.nodes) n) (tree_in d (grown_link g)) (m + (length d.nodes - length b.nodes)))
      → Hangs mid new (tree_in d (grown_link g))
      → IsInserted a d tb new (tree_in a (Some top)) (Left ∷ path) x (record { top = g; rank = made.rank })
  lifted_left d new g adds told lists grown hangs =
      let t = tree_in a (Some top) in
      let w = below_left in
      let r = lift_node a b tb mid top Left path x made n h o in
      let same = w.adds.same n.right (link_later _ _ n.right (omega (arith, length-trees a.nodes)) r.sound.right_earlier) in
      let whole = whole_left a b d _ 3 n t _ _ w.adds adds r.sound r.tree grown w.grown in
      record {
        adds = whole.1;
        told = whole_told a b d _ tb mid new n t g w.adds r.sound r.tree lift_up_left.rows told;
        lists = lists ∙ ap (λ ys. ys ++ n.entry ∷ entries (tree_in b n.right)) w.lists
            ∙ ap (λ u. inserted_at (tree_in a n.left) path x ++ n.entry ∷ entries u) same
            ∙ ap (λ u. inserted_at u (Left ∷ path) x) (sym r.tree);
        grown = whole.0;
        hangs = hangs_left tb mid new (tree_in b (grown_link made.top)) (tree_in b n.right) (tree_in d (grown_link g)) n.entry w.hangs
            hangs lists;
        rank = subst (λ u. IsSizeOf made.rank (before x.elem (inserted_at u (Left ∷ path) x))) (sym r.tree)
            (rank_left (length tb) (tree_in a n.left) (tree_in a n.right) n.entry x path made.rank own_left w.rank);
      }

module _ (a b : Store) (tb mid : List Row) (top : ℕ) (path : List Side) (x : Entry) (made : Inserted) (n : Node)
    (h : IsLift a b tb mid top Right path x made) (o : slice_get b.nodes top ≡ Some n) where
  pub below_right : IsInserted a b tb mid (tree_in a n.right) path x made
  below_right = subst (λ u. IsInserted a b tb mid u path x made)
      (ap (λ u. turned u Right) (lift_node a b tb mid top Right path x made n h o).tree) h.side_made

  pub own_right : AreOwn (length tb) (inserted_at (Fork (tree_in a n.left) n.entry (tree_in a n.right)) (Right ∷ path) x)
  own_right = own_along (length tb) (tree_in a (Some top)) (tree_in a n.left) (tree_in a n.right) n.entry x (Right ∷ path) (Right ∷ path)
      (lift_node a b tb mid top Right path x made n h o).tree refl h.fit.own

  pub lift_up_right : IsUpRight b tb mid (tree_in a (Some top)) n x (tree_in b (grown_link made.top)) made.top
  lift_up_right =
      let w = below_right in
      let r = lift_node a b tb mid top Right path x made n h o in
      up_right a b _ tb mid (tree_in a (Some top)) (tree_in b (grown_link made.top)) n x made.top (length b.nodes - length a.nodes)
      (inserted_at (tree_in a n.right) path x) w.adds r.sound r.tree h.fit.few own_right h.fit.kept h.fit.row
      (gains_inserted x (tree_in a n.right) path) w.lists w.grown w.hangs w.told

  pub lifted_right : (d : Store) (new : List Row) (g : Grown) (s : Size) → s ≡ through n.left_size n.entry made.rank → Adds b d 3
      → ((u : Option Above) → PointsTo mid (tree_of (trees b.nodes) n) u → IsTold d new u (tree_of (trees b.nodes) n) g)
      → entries (tree_in d (grown_link g)) ≡ entries (tree_in b n.left) ++ n.entry ∷ entries (tree_in b (grown_link made.top))
      → ((m : ℕ) → IsGrown (tree_in b n.right) (tree_in b (grown_link made.top)) m
      → IsGrown (tree_of (trees b.nodes) n) (tree_in d (grown_link g)) (m + (length d.nodes - length b.nodes)))
      → Hangs mid new (tree_in d (grown_link g))
      → IsInserted a d tb new (tree_in a (Some top)) (Right ∷ path) x (record { top = g; rank = s })
  lifted_right d new g s size adds told lists grown hangs =
      let t = tree_in a (Some top) in
      let w = below_right in
      let r = lift_node a b tb mid top Right path x made n h o in
      let same = w.adds.same n.left (link_later _ _ n.left (omega (arith, length-trees a.nodes)) r.sound.left_earlier) in
      let whole = whole_right a b d _ 3 n t _ _ w.adds adds r.sound r.tree grown w.grown in
      record {
        adds = whole.1;
        told = whole_told a b d _ tb mid new n t g w.adds r.sound r.tree lift_up_right.rows told;
        lists = lists ∙ ap (λ ys. entries (tree_in b n.left) ++ n.entry ∷ ys) w.lists
            ∙ ap (λ u. entries u ++ n.entry ∷ inserted_at (tree_in a n.right) path x) same
            ∙ ap (λ u. inserted_at u (Right ∷ path) x) (sym r.tree);
        grown = whole.0;
        hangs = hangs_right tb mid new (tree_in b n.left) (tree_in b (grown_link made.top)) (tree_in d (grown_link g)) n.entry w.hangs
            hangs lists;
        rank = subst (λ u. IsSizeOf s (before x.elem (inserted_at u (Right ∷ path) x))) (sym r.tree)
            (rank_right (length tb) (tree_in a n.left) (tree_in a n.right) n.entry x path s n.left_size made.rank own_right size
            r.sound.left_size w.rank);
      }
