-- The part of a tree that the first steps of a path lead to, and what there is of it.
use Rattle.std.proofs.Common.{◌≡◌, ℕ, zero, suc, ◌+◌, ◌<◌, List, [], ◌∷◌, ◌++◌, ◌⊎◌, length, take, drop, Option, Some, inl, inr}
use Rattle.std.proofs.Common.{refl, sym, ap, ◌∙◌, subst, arith, length-append}
use Rattle.std.specs.List.{slice_get}
use Rattle.std.specs.Option.{IsSome}
use Rattle.counted_tree.specs.declared.entry.Entry.{Entry}
use Rattle.counted_tree.specs.declared.kept.row.Row.{Row}
use Rattle.counted_tree.specs.declared.kept.side.Side.{Side}
use Rattle.counted_tree.specs.declared.kept.side.Side.TheVariants.{Left, Right}
use Rattle.counted_tree.specs.Internal.Tree.{Tree, entries, height}
use Rattle.counted_tree.specs.Internal.Tree.Tree.{Leaf, Fork}
use Rattle.counted_tree.specs.Internal.PathEntries.{entry_at, turned, under}
use Rattle.counted_tree.specs.Internal.Arena.{IsLinkBelow, AreSound}
use Rattle.counted_tree.specs.Internal.Store.{Store}
use Rattle.counted_tree.specs.Internal.Change.{tree_in}
use Rattle.counted_tree.specs.declared.insert.path.Inserted.{Inserted}
use Rattle.counted_tree.specs.declared.kept.node.Node.{Node}
use Rattle.counted_tree.specs.Internal.Insertion.{IsFit, IsInserted, IsLift, AreAlong}
use Rattle.counted_tree.proofs.Levels.{down_left, down_right}

-- one step more
under_suc : (t : Tree) (path : List Side) (i : ℕ) (s : Side) → slice_get path i ≡ Some s
    → under t (take (suc i) path) ≡ turned (under t (take i path)) s
under_suc t [] i s h = absurd (cc)
under_suc t (p ∷ path) zero s h = let same : p ≡ s = cc in ap (turned t) same
under_suc t (p ∷ path) (suc i) s h = under_suc (turned t p) path i s h

pub under_step : (t : Tree) (path : List Side) (i : ℕ) (s : Side) → slice_get path i ≡ Some s
    → under t (take (i + 1) path) ≡ turned (under t (take i path)) s
under_step t path i s h =
    let e : suc i ≡ i + 1 = omega arith in
    subst (λ k. under t (take k path) ≡ turned (under t (take i path)) s) e (under_suc t path i s h)

drop_suc : (path : List Side) (i : ℕ) (s : Side) → slice_get path i ≡ Some s → drop i path ≡ s ∷ drop (suc i) path
drop_suc [] i s h = absurd (cc)
drop_suc (p ∷ path) zero s h = let same : p ≡ s = cc in ap (λ q. q ∷ path) same
drop_suc (p ∷ path) (suc i) s h = drop_suc path i s h

pub drop_step : (path : List Side) (i : ℕ) (s : Side) → slice_get path i ≡ Some s → drop i path ≡ s ∷ drop (i + 1) path
drop_step path i s h =
    let e : suc i ≡ i + 1 = omega arith in
    subst (λ k. drop i path ≡ s ∷ drop k path) e (drop_suc path i s h)

-- the whole path leads to the same entry
pub entry_turned : (t : Tree) (s : Side) (path : List Side) → entry_at t (s ∷ path) ≡ entry_at (turned t s) path
entry_turned Leaf s path = refl
entry_turned (Fork l x r) Left path = refl
entry_turned (Fork l x r) Right path = refl

pub entry_under : (t : Tree) (path : List Side) (i : ℕ) → entry_at t path ≡ entry_at (under t (take i path)) (drop i path)
entry_under t [] zero = refl
entry_under t [] (suc i) = refl
entry_under t (s ∷ path) zero = refl
entry_under t (s ∷ path) (suc i) = entry_turned t s path ∙ entry_under (turned t s) path i

-- the path is shorter than the tree is high
pub path_short : (t : Tree) (path : List Side) (y : Entry) → entry_at t path ≡ Some y → length path < height t
path_short Leaf path y h = absurd (cc)
path_short (Fork l x r) [] y h = omega arith
path_short (Fork l x r) (Left ∷ path) y h = omega (arith, path_short l path y h)
path_short (Fork l x r) (Right ∷ path) y h = omega (arith, path_short r path y h)

-- a part can have the entry, too
pub fit_turned : (n : ℕ) (tb : List Row) (t : Tree) (s : Side) (path : List Side) (x : Entry) → IsSome (entry_at t (s ∷ path))
    → IsFit n tb t (s ∷ path) x → IsFit n tb (turned t s) path x
fit_turned n tb Leaf s path x there h = absurd (cc)
fit_turned n tb (Fork l y r) Left path x there h =
    let d = down_left tb (Fork l y r) l r y _ refl h.own h.kept in
    record {
      reserved = omega (arith, h.reserved);
      few = omega (arith, h.few, length-append (entries l) (y ∷ entries r));
      own = d.own;
      kept = d.kept;
      row = d.row;
    }
fit_turned n tb (Fork l y r) Right path x there h =
    let d = down_right tb (Fork l y r) l r y _ refl h.own h.kept in
    record {
      reserved = omega (arith, h.reserved);
      few = omega (arith, h.few, length-append (entries l) (y ∷ entries r));
      own = d.own;
      kept = d.kept;
      row = d.row;
    }

pub fit_under : (n : ℕ) (tb : List Row) (t : Tree) (path : List Side) (x : Entry) (i : ℕ) → IsSome (entry_at t path)
    → IsFit n tb t path x → IsFit n tb (under t (take i path)) (drop i path) x
fit_under n tb t [] x zero there h = h
fit_under n tb t [] x (suc i) there h = h
fit_under n tb t (s ∷ path) x zero there h = h
fit_under n tb t (s ∷ path) x (suc i) there h =
    fit_under n tb (turned t s) path x i (subst IsSome (entry_turned t s path) there) (fit_turned n tb t s path x there h)

-- what stands in a list with one more at its end
pub get_pushed : (xs : List ℕ) (k i v : ℕ) → slice_get (xs ++ k ∷ []) i ≡ Some v
    → (slice_get xs i ≡ Some v) ⊎ ((i ≡ length xs) × (k ≡ v))
get_pushed [] k zero v h = inr (refl, cc)
get_pushed [] k (suc i) v h = absurd (cc)
get_pushed (x ∷ xs) k zero v h = inl h
get_pushed (x ∷ xs) k (suc i) v h = elim (get_pushed xs k i v h) [ inl here ↦ inl here | inr last ↦ inr (omega (arith, last.0), last.1) ]

pub along_pushed : (a : Store) (t : Tree) (path : List Side) (numbers pushed : List ℕ) (at : ℕ) → AreAlong a t path numbers
    → at < length a.nodes → tree_in a (Some at) ≡ under t (take (length numbers) path) → pushed ≡ numbers ++ at ∷ []
    → AreAlong a t path pushed
along_pushed a t path numbers pushed at along below here e i k h =
    elim (get_pushed numbers at i k (ap (λ xs. slice_get xs i) (sym e) ∙ h)) [
      | inl before ↦ along i k before
      | inr last ↦
          let same : length numbers ≡ i = sym last.0 in
          subst (λ j. (j < length a.nodes) × (tree_in a (Some j) ≡ under t (take i path))) last.1
          (below, subst (λ j. tree_in a (Some at) ≡ under t (take j path)) same here)
    ]

-- what a node's side is
pub side_below : (m : ℕ) (n : Node) (s : Side) (o : Option ℕ) → IsLinkBelow m n.left → IsLinkBelow m n.right
    → (s ≡ Left → o ≡ n.left) → (s ≡ Right → o ≡ n.right) → IsLinkBelow m o
side_below m n Left o hl hr l r = subst (IsLinkBelow m) (sym (l refl)) hl
side_below m n Right o hl hr l r = subst (IsLinkBelow m) (sym (r refl)) hr

pub side_tree : (a : Store) (n : Node) (s : Side) (o : Option ℕ) (t : Tree) → t ≡ Fork (tree_in a n.left) n.entry (tree_in a n.right)
    → (s ≡ Left → o ≡ n.left) → (s ≡ Right → o ≡ n.right) → tree_in a o ≡ turned t s
side_tree a n Left o t e l r = ap (tree_in a) (l refl) ∙ ap (λ u. turned u Left) (sym e)
side_tree a n Right o t e l r = ap (tree_in a) (r refl) ∙ ap (λ u. turned u Right) (sym e)

-- a level on the way up
pub lift_there : (a b : Store) (tb mid : List Row) (t : Tree) (path : List Side) (numbers : List ℕ) (x : Entry) (made : Inserted)
    (level i k : ℕ) (s : Side) → AreSound a.nodes → AreAlong a t path numbers → IsSome (entry_at t path)
    → IsFit a.reserved_nodes tb t path x
    → slice_get numbers i ≡ Some k → slice_get path i ≡ Some s → level ≡ i + 1
    → IsInserted a b tb mid (under t (take level path)) (drop level path) x made → IsLift a b tb mid k s (drop level path) x made
lift_there a b tb mid t path numbers x made level i k s sound along there fit number side e h =
    let at = along i k number in
    let part = ap (λ j. under t (take j path)) e ∙ under_step t path i s side ∙ ap (λ u. turned u s) (sym at.1) in
    let way = drop_step path i s side ∙ ap (λ j. s ∷ drop j path) (sym e) in
    record {
      sound = sound;
      below = at.0;
      fit = subst (λ u. IsFit a.reserved_nodes tb u (s ∷ drop level path) x) (sym at.1)
          (subst (λ w. IsFit a.reserved_nodes tb (under t (take i path)) w x) way (fit_under a.reserved_nodes tb t path x i there fit));
      side_made = subst (λ u. IsInserted a b tb mid u (drop level path) x made) part h;
    }

pub lifted_there : (a b : Store) (tb new : List Row) (t : Tree) (path : List Side) (numbers : List ℕ) (x : Entry) (made : Inserted)
    (level i k : ℕ) (s : Side) → AreAlong a t path numbers → slice_get numbers i ≡ Some k → slice_get path i ≡ Some s → level ≡ i + 1
    → IsInserted a b tb new (tree_in a (Some k)) (s ∷ drop level path) x made
    → IsInserted a b tb new (under t (take i path)) (drop i path) x made
lifted_there a b tb new t path numbers x made level i k s along number side e h =
    let way = drop_step path i s side ∙ ap (λ j. s ∷ drop j path) (sym e) in
    subst (λ w. IsInserted a b tb new (under t (take i path)) w x made) (sym way)
    (subst (λ u. IsInserted a b tb new u (s ∷ drop level path) x made) (along i k number).1 h)

-- and its end
pub drop_all : (path : List Side) (n : ℕ) → n ≡ length path → drop n path ≡ []
drop_all [] zero e = refl
drop_all [] (suc n) e = refl
drop_all (s ∷ path) zero e = absurd (omega arith)
drop_all (s ∷ path) (suc n) e = drop_all path n (omega arith)

pub fit_there : (a : Store) (tb : List Row) (t : Tree) (path : List Side) (numbers : List ℕ) (x : Entry) (i k : ℕ)
    → AreAlong a t path numbers → IsSome (entry_at t path) → IsFit a.reserved_nodes tb t path x → slice_get numbers i ≡ Some k
    → i ≡ length path → IsFit a.reserved_nodes tb (tree_in a (Some k)) [] x
fit_there a tb t path numbers x i k along there fit number e =
    subst (λ u. IsFit a.reserved_nodes tb u [] x) (sym (along i k number).1)
    (subst (λ w. IsFit a.reserved_nodes tb (under t (take i path)) w x) (drop_all path i e)
    (fit_under a.reserved_nodes tb t path x i there fit))

pub made_there : (a b : Store) (tb new : List Row) (t : Tree) (path : List Side) (numbers : List ℕ) (x : Entry) (made : Inserted)
    (i k : ℕ) → AreAlong a t path numbers → slice_get numbers i ≡ Some k → i ≡ length path
    → IsInserted a b tb new (tree_in a (Some k)) [] x made → IsInserted a b tb new (under t (take i path)) (drop i path) x made
made_there a b tb new t path numbers x made i k along number e h =
    subst (λ w. IsInserted a b tb new (under t (take i path)) w x made) (sym (drop_all path i e))
    (subst (λ u. IsInserted a b tb new u [] x made) (along i k number).1 h)
