-- A level of an insertion over a side that is settled, on either side.
use Rattle.std.proofs.Common.{◌≡◌, ℕ, ◌+◌, ◌-◌, ◌<◌, ◌≤◌, true, false, List, [], ◌∷◌, ◌++◌, length, take, drop, Some}
use Rattle.std.proofs.Common.{refl, sym, ap, subst, arith, length-append}
use Rattle.std.specs.Prelude.{◌^◌}
use Rattle.std.specs.List.{slice_get}
use Rattle.std.specs.Option.{IsSome}
use Rattle.counted_tree.specs.declared.entry.Entry.{Entry}
use Rattle.counted_tree.specs.declared.insert.level.Grown.TheVariants.{Settled}
use Rattle.counted_tree.specs.declared.insert.path.Inserted.{Inserted}
use Rattle.counted_tree.specs.declared.kept.node.Node.{Node}
use Rattle.counted_tree.specs.declared.kept.row.Row.{Row}
use Rattle.counted_tree.specs.declared.kept.side.Side.{Side}
use Rattle.counted_tree.specs.declared.kept.side.Side.TheVariants.{Left, Right}
use Rattle.counted_tree.specs.declared.size.Size.{Size}
use Rattle.counted_tree.specs.Entry.{items_of}
use Rattle.counted_tree.specs.Internal.Size.{size_of, through}
use Rattle.counted_tree.specs.Internal.Tree.{Tree, entries, height}
use Rattle.counted_tree.specs.Internal.Tree.Tree.{Leaf, Fork}
use Rattle.counted_tree.specs.Internal.Arena.{AreSound, trees, tree_of}
use Rattle.counted_tree.specs.Internal.PathEntries.{entry_at, inserted_at, turned, under}
use Rattle.counted_tree.specs.Internal.Store.{Store}
use Rattle.counted_tree.specs.Internal.Change.{tree_in, DifferByAtMost, IsRebuilt}
use Rattle.counted_tree.specs.Internal.GrownTree.{KeepsRow}
use Rattle.counted_tree.specs.Internal.Insertion.{IsFit, IsInserted, IsLift, IsRisen, AreAlong}
use Rattle.counted_tree.specs.Internal.Table.{Hangs}
use Rattle.counted_tree.proofs.Copies.{copied_left, copied_right}
use Rattle.counted_tree.proofs.Counts.{one_at_most, two_at_most, units_few}
use Rattle.counted_tree.proofs.Gains.{gains_one, gains_size, gains_inserted}
use Rattle.counted_tree.proofs.EarlierTrees.{linked_balanced}
use Rattle.counted_tree.proofs.GrowthLevels.{grown_left, grown_right}
use Rattle.counted_tree.proofs.Lifts.{lift_node, lift_up_left, lift_up_right, lifted_left, lifted_right}
use Rattle.counted_tree.proofs.VersionLists.{adds_weaker}
use Rattle.counted_tree.proofs.Ranks.{rank_few}
use Rattle.counted_tree.proofs.Rotations.{plain_fork}
use Rattle.counted_tree.proofs.SettledTrees.{settled_left, settled_right, hangs_settled}
use Rattle.counted_tree.proofs.Sizes.{size_few, more_size}

-- a side has no more entries
turned_few : (t : Tree) (s : Side) → length (entries (turned t s)) ≤ length (entries t)
turned_few Leaf s = omega arith
turned_few (Fork l x r) Left = omega (arith, length-append (entries l) (x ∷ entries r))
turned_few (Fork l x r) Right = omega (arith, length-append (entries l) (x ∷ entries r))

-- what the step is asked
pub record IsStep (b : Store) (n : Node) (x : Entry) (below : ℕ) (rank : Size) : Type 0 where
  pub there : below < length b.nodes
  pub shown : n.left_size.shown + length (items_of false x) < 2 ^ 17
  pub few : n.left_size.shown ≤ n.left_size.units
  pub wide : n.left_size.units + length (items_of true x) < n.left_size.shown + length (items_of false x) + 2 ^ 17
  pub past : (n.left_size.shown + length (items_of false n.entry) + rank.shown < 2 ^ 32)
      × (n.left_size.units + length (items_of true n.entry) + rank.units < 2 ^ 32)

below_there : (a b : Store) (tb mid : List Row) (top : ℕ) (side : Side) (path : List Side) (x : Entry) (below : ℕ) (rank : Size) (n : Node)
    → IsLift a b tb mid top side path x (record { top = Settled below; rank = rank }) → slice_get b.nodes top ≡ Some n
    → below < length b.nodes
below_there a b tb mid top Left path x below rank n h o =
    (lift_up_left a b tb mid top path x (record { top = Settled below; rank = rank }) n h o).told.0
below_there a b tb mid top Right path x below rank n h o =
    (lift_up_right a b tb mid top path x (record { top = Settled below; rank = rank }) n h o).told.0

pub step_there : (a b : Store) (tb mid : List Row) (top : ℕ) (side : Side) (path : List Side) (x : Entry) (below : ℕ) (rank : Size)
    (n : Node) → IsLift a b tb mid top side path x (record { top = Settled below; rank = rank }) → slice_get b.nodes top ≡ Some n
    → IsStep b n x below rank
step_there a b tb mid top side path x below rank n h o =
    let made : Inserted = record { top = Settled below; rank = rank } in
    let r = lift_node a b tb mid top side path x made n h o in
    let l = entries (tree_in a n.left) in
    let u = turned (tree_in a (Some top)) side in
    let few = subst (λ u. length (entries u) < 131072) r.tree h.fit.few in
    let whole = length-append l (n.entry ∷ entries (tree_in a n.right)) in
    let left = size_few n.left_size l r.sound.left_size in
    let two = units_few l in
    let here = one_at_most x in
    let more = gains_one x (entries u) (inserted_at u path x) (gains_inserted x u path) in
    let before = rank_few rank x.elem (inserted_at u path x) h.side_made.rank
    (omega (arith, more, turned_few (tree_in a (Some top)) side, h.fit.few)) in
    record {
      there = below_there a b tb mid top side path x below rank n h o;
      shown = omega (arith, left.0, few, whole, here.0);
      few = omega (arith, two.0, r.sound.left_size);
      wide = omega (arith, left.0, two.1, r.sound.left_size, few, whole, here.0, here.1, here.2);
      past = (
        omega (arith, left.0, before.0, few, whole, two_at_most false n.entry),
        omega (arith, left.1, before.1, few, whole, two_at_most true n.entry),
      );
    }

-- the node with another left side, which has one more entry
abbrev pub grown_node : ℕ → Entry → Node → Node
grown_node below x n = record n {
  left = Some below;
  left_size = record { shown = n.left_size.shown + length (items_of false x); units = n.left_size.units + length (items_of true x) };
}

pub stepped_left : (a b d : Store) (tb mid : List Row) (top : ℕ) (path : List Side) (x : Entry) (below k : ℕ) (rank : Size) (n : Node)
    → IsLift a b tb mid top Left path x (record { top = Settled below; rank = rank }) → slice_get b.nodes top ≡ Some n
    → d.nodes ≡ b.nodes ++ grown_node below x n ∷ [] → d.reserved_nodes + 1 ≡ b.reserved_nodes
    → d.keys_and_widths ≡ b.keys_and_widths → d.reserved_keys_and_widths ≡ b.reserved_keys_and_widths → k ≡ length b.nodes
    → IsInserted a d tb mid (tree_in a (Some top)) (Left ∷ path) x (record { top = Settled k; rank = rank })
stepped_left a b d tb mid top path x below k rank n h o nodes reserved keys_and_widths reserved_keys_and_widths number =
    let made : Inserted = record { top = Settled below; rank = rank } in
    let up = lift_up_left a b tb mid top path x made n h o in
    let s = tree_in b (Some below) in
    let r = tree_in b n.right in
    let keeps = up.told.1 in
    let balanced = up.node.balanced in
    let near : DifferByAtMost 1 (height s) (height r) = (omega (arith, keeps.level, balanced.2), omega (arith, keeps.level, balanced.3)) in
    let sound = h.side_made.adds.sound in
    let size = (grown_node below x n).left_size in
    let shows = more_size size n.left_size (size_of x) (entries s) (entries (tree_in b n.left)) refl
    (gains_size x (entries (tree_in b n.left)) (entries s) up.gains) up.node.left_size in
    let copied = copied_left b d n (Some below) size k sound up.node up.told.0 near shows nodes
    reserved keys_and_widths reserved_keys_and_widths
    number in
    let plain = plain_fork s r n.entry (linked_balanced b.nodes (Some below) sound up.told.0) balanced.1 near in
    let one : length d.nodes - length b.nodes ≡ 1 = omega (arith, copied.count) in
    lifted_left a b tb mid top path x made n h o d mid (Settled k) (adds_weaker b d 1 3 (omega arith) copied.adds)
    (λ u there. (
      copied.number,
      subst (KeepsRow mid u (tree_of (trees b.nodes) n)) (sym copied.tree)
          (settled_left mid u _ (tree_in b n.left) s r n.entry keeps there),
    ))
    (ap entries copied.tree)
    (λ m g. grown_left (tree_in b n.left) r s (tree_in d (Some k)) n.entry m (length d.nodes - length b.nodes) balanced g
    (subst (IsRebuilt s n.entry r) (sym copied.tree) plain) (omega (arith, one)) (λ _. one))
    (subst (Hangs mid mid) (sym copied.tree) (hangs_settled mid s r n.entry up.ready keeps.row up.other))

pub stepped_right : (a b d : Store) (tb mid : List Row) (top : ℕ) (path : List Side) (x : Entry) (below k : ℕ) (rank : Size) (n : Node)
    → IsLift a b tb mid top Right path x (record { top = Settled below; rank = rank }) → slice_get b.nodes top ≡ Some n
    → d.nodes ≡ b.nodes ++ record n { right = Some below } ∷ [] → d.reserved_nodes + 1 ≡ b.reserved_nodes
    → d.keys_and_widths ≡ b.keys_and_widths → d.reserved_keys_and_widths ≡ b.reserved_keys_and_widths → k ≡ length b.nodes
    → IsInserted a d tb mid (tree_in a (Some top)) (Right ∷ path) x (record { top = Settled k; rank = through n.left_size n.entry rank })
stepped_right a b d tb mid top path x below k rank n h o nodes reserved keys_and_widths reserved_keys_and_widths number =
    let made : Inserted = record { top = Settled below; rank = rank } in
    let up = lift_up_right a b tb mid top path x made n h o in
    let l = tree_in b n.left in
    let s = tree_in b (Some below) in
    let keeps = up.told.1 in
    let balanced = up.node.balanced in
    let near : DifferByAtMost 1 (height l) (height s) = (omega (arith, keeps.level, balanced.2), omega (arith, keeps.level, balanced.3)) in
    let sound = h.side_made.adds.sound in
    let copied = copied_right b d n (Some below) k sound up.node up.told.0 near nodes
    reserved keys_and_widths reserved_keys_and_widths number in
    let plain = plain_fork l s n.entry balanced.0 (linked_balanced b.nodes (Some below) sound up.told.0) near in
    let one : length d.nodes - length b.nodes ≡ 1 = omega (arith, copied.count) in
    lifted_right a b tb mid top path x made n h o d mid (Settled k) (through n.left_size n.entry rank) refl
    (adds_weaker b d 1 3 (omega arith) copied.adds)
    (λ u there. (
      copied.number,
      subst (KeepsRow mid u (tree_of (trees b.nodes) n)) (sym copied.tree)
          (settled_right mid u _ l (tree_in b n.right) s n.entry keeps there),
    ))
    (ap entries copied.tree)
    (λ m g. grown_right l (tree_in b n.right) s (tree_in d (Some k)) n.entry m (length d.nodes - length b.nodes) balanced g
    (subst (IsRebuilt l n.entry s) (sym copied.tree) plain) (omega (arith, one)) (λ _. one))
    (subst (Hangs mid mid) (sym copied.tree) (hangs_settled mid l s n.entry up.ready up.other keeps.row))

-- a part that is settled, and what was known of the whole
pub risen : (a b : Store) (tb mid : List Row) (t : Tree) (path : List Side) (numbers : List ℕ) (x : Entry) (made : Inserted)
    (level part : ℕ) → AreSound a.nodes → AreAlong a t path numbers → IsSome (entry_at t path) → IsFit a.reserved_nodes tb t path x
    → made.top ≡ Settled part → IsInserted a b tb mid (under t (take level path)) (drop level path) x made
    → IsRisen a b tb mid t path numbers x level (record { top = Settled part; rank = made.rank })
risen a b tb mid t path numbers x made level part sound along there fit is h = record {
  sound = sound;
  along = along;
  there = there;
  fit = fit;
  part_made = subst (λ g. IsInserted a b tb mid (under t (take level path)) (drop level path) x (record { top = g; rank = made.rank }))
      is h;
}
