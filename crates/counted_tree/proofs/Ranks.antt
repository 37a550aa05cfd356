-- How much stands before an entry, one that a path leads to or a new one.
use Rattle.std.proofs.Common.{◌≡◌, ℕ, ◌+◌, ◌*◌, ◌<◌, ◌≤◌, cond, true, false, List, [], ◌∷◌}
use Rattle.std.proofs.Common.{length, refl, sym, ap, ◌∙◌, subst, arith, length-append, eq-eqb}
use Rattle.std.proofs.Math.Dec.{eqb}
use Rattle.std.specs.Prelude.{◌^◌}
use Rattle.counted_tree.specs.declared.entry.Entry.{Entry}
use Rattle.counted_tree.specs.declared.kept.side.Side.{Side}
use Rattle.counted_tree.specs.declared.kept.side.Side.TheVariants.{Left, Right}
use Rattle.counted_tree.specs.declared.size.Size.{Size}
use Rattle.counted_tree.specs.Entry.{items_of}
use Rattle.counted_tree.specs.Internal.Size.{through, IsSizeOf}
use Rattle.counted_tree.specs.Internal.Tree.{Tree, entries}
use Rattle.counted_tree.specs.Internal.Tree.Tree.{Fork}
use Rattle.counted_tree.specs.Internal.PathEntries.{inserted_at, before_at}
use Rattle.counted_tree.specs.Changes.{before}
use Rattle.counted_tree.specs.Internal.Table.{AreOwn}
use Rattle.counted_tree.proofs.Gains.{gains_left, gains_right, gains_first, gains_inserted}
use Rattle.counted_tree.proofs.Paths.{no_items, length-before_at-le}
use Rattle.counted_tree.proofs.Sizes.{size_few, through_lists, through_small}
use Rattle.counted_tree.proofs.Splits.{alone, before_it}
use Rattle.counted_tree.proofs.Tables.{own_split}

-- the path ends at the top, so the left side stands before the entry
pub before_here : (s : Size) (t l r : Tree) (x : Entry) (path : List Side) → t ≡ Fork l x r → length path ≡ 0 → IsSizeOf s (entries l)
    → IsSizeOf s (before_at t path)
before_here s t l r x path whole none size = let way = no_items path none in rw (whole, way) size

-- it goes to the right, past the left side and the top's entry
pub before_right : (s left more : Size) (t l r : Tree) (x : Entry) (path down : List Side) → t ≡ Fork l x r → path ≡ Right ∷ down
    → s ≡ through left x more → IsSizeOf left (entries l) → IsSizeOf more (before_at r down) → IsSizeOf s (before_at t path)
before_right s left more t l r x path down whole way e size rest =
    rw (whole, way) (through_lists s left more (entries l) (before_at r down) x e size rest)

pub before_small : (left more : Size) (t l r : Tree) (x : Entry) (down : List Side) → t ≡ Fork l x r → length (entries t) ≤ 131072
    → IsSizeOf left (entries l) → IsSizeOf more (before_at r down)
    → (left.shown + length (items_of false x) + more.shown < 2 ^ 32) × (left.units + length (items_of true x) + more.units < 2 ^ 32)
before_small left more t l r x down whole few size rest =
    through_small left more (entries l) (before_at r down) x size rest (omega (
      arith,
      ap (λ u. length (entries u)) whole,
      few,
      length-append (entries l) (x ∷ entries r),
      length-before_at-le r down,
    ))

-- it is nowhere else in the list, so what stands before it is what stood before its place
before_new : (n : ℕ) (t : Tree) (path : List Side) (new : Entry) → AreOwn n (inserted_at t path new)
    → before new.elem (inserted_at t path new) ≡ (gains_inserted new t path).front
before_new n t path new own =
    let g = gains_inserted new t path in
    ap (before new.elem) g.with_it
    ∙ before_it new.elem new g.front g.back refl (alone n g.front g.back new (subst (AreOwn n) g.with_it own)).front

pub rank_first : (s : Size) (new : Entry) (xs : List Entry) → s ≡ record { shown = 0; units = 0 }
    → IsSizeOf s (before new.elem (new ∷ xs))
rank_first s new xs e = rw (eq-eqb new.elem new.elem refl) (ap (λ (z : Size). z.shown) e, ap (λ (z : Size). z.units) e)

pub rank_here : (n : ℕ) (l r : Tree) (x new : Entry) (t s m : Size) → AreOwn n (inserted_at (Fork l x r) [] new)
    → m ≡ record { shown = 0; units = 0 } → t ≡ through s x m → IsSizeOf s (entries l)
    → IsSizeOf t (before new.elem (inserted_at (Fork l x r) [] new))
unfolding gains_inserted gains_right gains_first
rank_here n l r x new t s m own none et size =
    subst (IsSizeOf t) (sym (before_new n (Fork l x r) [] new own))
    (through_lists t s m (entries l) [] x et size (ap (λ (z : Size). z.shown) none, ap (λ (z : Size). z.units) none))

pub rank_left : (n : ℕ) (l r : Tree) (x new : Entry) (path : List Side) (t : Size) → AreOwn n (inserted_at (Fork l x r) (Left ∷ path) new)
    → IsSizeOf t (before new.elem (inserted_at l path new))
    → IsSizeOf t (before new.elem (inserted_at (Fork l x r) (Left ∷ path) new))
unfolding gains_inserted gains_left
rank_left n l r x new path t own size =
    let side = (own_split n (inserted_at l path new) (x ∷ entries r) own).front in
    subst (IsSizeOf t) (before_new n l path new side ∙ sym (before_new n (Fork l x r) (Left ∷ path) new own)) size

pub rank_right : (n : ℕ) (l r : Tree) (x new : Entry) (path : List Side) (t s m : Size)
    → AreOwn n (inserted_at (Fork l x r) (Right ∷ path) new) → t ≡ through s x m → IsSizeOf s (entries l)
    → IsSizeOf m (before new.elem (inserted_at r path new))
    → IsSizeOf t (before new.elem (inserted_at (Fork l x r) (Right ∷ path) new))
unfolding gains_inserted gains_right
rank_right n l r x new path t s m own et size more =
    let side = (own_split n (entries l) (x ∷ inserted_at r path new) own).back.2 in
    let front = (gains_inserted new r path).front in
    subst (IsSizeOf t) (sym (before_new n (Fork l x r) (Right ∷ path) new own))
    (through_lists t s m (entries l) front x et size (subst (IsSizeOf m) (before_new n r path new side) more))

-- these are small numbers
pub rank_small : (n : ℕ) (l r : Tree) (x new : Entry) (path : List Side) (s m : Size)
    → AreOwn n (inserted_at (Fork l x r) (Right ∷ path) new) → length (entries (Fork l x r)) < 131072 → IsSizeOf s (entries l)
    → IsSizeOf m (before new.elem (inserted_at r path new))
    → (s.shown + length (items_of false x) + m.shown < 2 ^ 32) × (s.units + length (items_of true x) + m.units < 2 ^ 32)
rank_small n l r x new path s m own few size more =
    let side = (own_split n (entries l) (x ∷ inserted_at r path new) own).back.2 in
    let g = gains_inserted new r path in
    let less : length (entries l) + length g.front < 131072 = omega (
      arith,
      few,
      length-append (entries l) (x ∷ entries r),
      ap length g.without,
      length-append g.front g.back,
    ) in
    through_small s m (entries l) g.front x size (subst (IsSizeOf m) (before_new n r path new side) more) less

pub rank_here_small : (l r : Tree) (x : Entry) (s m : Size) → m ≡ record { shown = 0; units = 0 }
    → length (entries (Fork l x r)) < 131072 → IsSizeOf s (entries l)
    → (s.shown + length (items_of false x) + m.shown < 2 ^ 32) × (s.units + length (items_of true x) + m.units < 2 ^ 32)
rank_here_small l r x s m none few size =
    through_small s m (entries l) [] x size (ap (λ (z : Size). z.shown) none, ap (λ (z : Size). z.units) none)
    (omega (arith, few, length-append (entries l) (x ∷ entries r)))

length-before-le : (e : ℕ) (xs : List Entry) → length (before e xs) ≤ length xs
length-before-le e [] = omega arith
length-before-le e (x ∷ xs) = elim (eqb x.elem e) as (λ v. length (cond v [] (x ∷ before e xs)) ≤ length (x ∷ xs)) [
  | true ↦ omega arith
  | false ↦ omega (arith, length-before-le e xs)
]

pub rank_few : (s : Size) (e : ℕ) (xs : List Entry) → IsSizeOf s (before e xs) → length xs ≤ 131072
    → (s.shown ≤ 131072) × (s.units ≤ 2 * 131072)
rank_few s e xs size few =
    let most = size_few s (before e xs) size in
    let less = length-before-le e xs in
    (omega (arith, most.0, less, few), omega (arith, most.1, less, few))
