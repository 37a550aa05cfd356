-- How far one comes past greater keys, in two lists one after the other.
use Rattle.std.proofs.Common.{◌≡◌, ℕ, ◌<◌, ◌≤◌, Bool, true, false, ltb, List, [], ◌∷◌, ◌++◌, length, Option, Some, None}
use Rattle.std.proofs.Common.{refl, sym, ap, ◌∙◌, arith, inl, inr}
use Rattle.std.specs.Prelude.{◌^◌}
use Rattle.std.proofs.lemmas.Bool.{cases_lt, lt-ltb, le-ltb}
use Rattle.counted_tree.specs.declared.entry.Entry.{Entry}
use Rattle.counted_tree.specs.Internal.Keys.{least_key}
use Rattle.counted_tree.specs.Internal.Tree.{Tree, entries}
use Rattle.counted_tree.specs.Internal.Tree.Tree.{Leaf, Fork}
use Rattle.counted_tree.specs.Internal.Arena.{AreSound}
use Rattle.counted_tree.specs.Internal.Change.{tree_in}
use Rattle.counted_tree.specs.Internal.Store.{Store}
use Rattle.counted_tree.proofs.Counts.{least-fork}
use Rattle.counted_tree.proofs.NodeTrees.{opened}
use Rattle.std.proofs.lemmas.Option.{slice_get_cases}
use Rattle.std.specs.Option.{IsSome}
use Rattle.counted_tree.specs.declared.kept.side.Side.{Side}
use Rattle.counted_tree.specs.declared.kept.side.Side.TheVariants.{Left, Right}
use Rattle.counted_tree.specs.Internal.PathEntries.{entry_at, after_at, elem_at}
use Rattle.counted_tree.specs.Greater.{passed}
use Rattle.counted_tree.specs.Internal.Stops.{all_greater, last_of, stop}

-- by the least key
below_least : (key : ℕ) (xs : List Entry) → key < least_key xs → all_greater key xs ≡ true
below_least key [] h = refl
below_least key (x ∷ xs) h = rw (lt-ltb key x.key (omega arith)) (below_least key xs (omega arith))

from_least : (key : ℕ) (xs : List Entry) → least_key xs ≤ key → least_key xs < 2 ^ 23 → all_greater key xs ≡ false
from_least key [] h k = absurd (omega arith)
from_least key (x ∷ xs) h k = elim (cases_lt key x.key) [
  | inl lt ↦ rw (lt-ltb key x.key lt) (from_least key xs (omega arith) (omega arith))
  | inr le ↦ rw (le-ltb key x.key le) refl
]

pub by_least : (key : ℕ) (xs : List Entry) → least_key xs < 2 ^ 23 → ltb key (least_key xs) ≡ all_greater key xs
by_least key xs h = elim (cases_lt key (least_key xs)) [
  | inl lt ↦ lt-ltb key (least_key xs) lt ∙ sym (below_least key xs lt)
  | inr le ↦ le-ltb key (least_key xs) le ∙ sym (from_least key xs le h)
]

least_of_fork : (t l r : Tree) (x : Entry) → t ≡ Fork l x r → x.key < 2 ^ 23 → least_key (entries t) < 2 ^ 23
least_of_fork t l r x e h =
    rw e (omega (arith, least-fork (entries l) (entries r) x))

pub least_small : (a : Store) (i : ℕ) → AreSound a.nodes → i < length a.nodes → least_key (entries (tree_in a (Some i))) < 2 ^ 23
least_small a i s h = elim ((slice_get_cases a.nodes i).1) [
  | inl w ↦ let o = opened a i w.0 s w.2 in
      least_of_fork (tree_in a (Some i)) (tree_in a w.0.left) (tree_in a w.0.right) w.0.entry o.tree o.small.1
  | inr w ↦ absurd (omega (arith, w.0))
]

-- where each is passed
passed_all : (key : ℕ) (last : Option ℕ) (xs : List Entry) → all_greater key xs ≡ true → passed key last xs ≡ last_of last xs
passed_all key last [] h = refl
passed_all key last (x ∷ xs) h = elim (cases_lt key x.key) [
  | inl lt ↦ let e = rw (lt-ltb key x.key lt) at h in rw (lt-ltb key x.key lt) (passed_all key (Some x.elem) xs e)
  | inr le ↦ let e = rw (le-ltb key x.key le) at h in absurd (cc)
]

pub passed_past : (key : ℕ) (last : Option ℕ) (xs ys : List Entry) → all_greater key xs ≡ true
    → passed key last (xs ++ ys) ≡ passed key (last_of last xs) ys
passed_past key last [] ys h = refl
passed_past key last (x ∷ xs) ys h = elim (cases_lt key x.key) [
  | inl lt ↦ let e = rw (lt-ltb key x.key lt) at h in rw (lt-ltb key x.key lt) (passed_past key (Some x.elem) xs ys e)
  | inr le ↦ let e = rw (le-ltb key x.key le) at h in absurd (cc)
]

pub passed_within : (key : ℕ) (last : Option ℕ) (xs ys : List Entry) → all_greater key xs ≡ false
    → passed key last (xs ++ ys) ≡ passed key last xs
passed_within key last [] ys h = absurd (cc)
passed_within key last (x ∷ xs) ys h = elim (cases_lt key x.key) [
  | inl lt ↦ let e = rw (lt-ltb key x.key lt) at h in rw (lt-ltb key x.key lt) (passed_within key (Some x.elem) xs ys e)
  | inr le ↦ rw (le-ltb key x.key le) refl
]

all_greater-past : (key : ℕ) (xs ys : List Entry) → all_greater key xs ≡ true → all_greater key (xs ++ ys) ≡ all_greater key ys
all_greater-past key [] ys h = refl
all_greater-past key (x ∷ xs) ys h = elim (cases_lt key x.key) [
  | inl lt ↦ let e = rw (lt-ltb key x.key lt) at h in rw (lt-ltb key x.key lt) (all_greater-past key xs ys e)
  | inr le ↦ let e = rw (le-ltb key x.key le) at h in absurd (cc)
]

all_greater-within : (key : ℕ) (xs ys : List Entry) → all_greater key xs ≡ false → all_greater key (xs ++ ys) ≡ false
all_greater-within key [] ys h = absurd (cc)
all_greater-within key (x ∷ xs) ys h = elim (cases_lt key x.key) [
  | inl lt ↦ let e = rw (lt-ltb key x.key lt) at h in rw (lt-ltb key x.key lt) (all_greater-within key xs ys e)
  | inr le ↦ rw (le-ltb key x.key le) refl
]

pub last_of-append : (last : Option ℕ) (xs ys : List Entry) (y : Entry) → last_of last (xs ++ y ∷ ys) ≡ last_of (Some y.elem) ys
last_of-append last [] ys y = refl
last_of-append last (x ∷ xs) ys y = last_of-append (Some x.elem) xs ys y

pub last_of-some : (d : ℕ) (xs : List Entry) → last_of (Some d) xs ≡ None → ⊥
last_of-some d [] h = absurd (cc)
last_of-some d (x ∷ xs) h = last_of-some x.elem xs h

-- at the entry where one stops, and past one
pub passed_stops : (key : ℕ) (last : Option ℕ) (x : Entry) (xs : List Entry) → x.key ≤ key → passed key last (x ∷ xs) ≡ last
passed_stops key last x xs h = rw (le-ltb key x.key h)

pub passed_goes : (key : ℕ) (last : Option ℕ) (x : Entry) (xs : List Entry) → key < x.key
    → passed key last (x ∷ xs) ≡ passed key (Some x.elem) xs
passed_goes key last x xs h = rw (lt-ltb key x.key h)

passed_some : (key d : ℕ) (xs : List Entry) → passed key (Some d) xs ≡ None → ⊥
passed_some key d [] h = absurd (cc)
passed_some key d (x ∷ xs) h = elim (cases_lt key x.key) [
  | inl lt ↦ passed_some key x.elem xs (sym (passed_goes key (Some d) x xs lt) ∙ h)
  | inr le ↦ let e = passed_stops key (Some d) x xs le in absurd (cc)
]

-- one stops among them, or each is passed
stopped : (b : Bool) (key : ℕ) (last : Option ℕ) (xs ys : List Entry) (d : ℕ) → all_greater key xs ≡ b → stop key last xs ≡ Some d
    → stop key last (xs ++ ys) ≡ Some d
stopped true key last xs ys d e h = let f = rw e at h in absurd (cc)
stopped false key last xs ys d e h =
    let f = rw e at h in
    rw (all_greater-within key xs ys e) (passed_within key last xs ys e ∙ f)

pub stop_before : (key : ℕ) (last : Option ℕ) (xs ys : List Entry) (d : ℕ) → stop key last xs ≡ Some d → stop key last (xs ++ ys) ≡ Some d
stop_before key last xs ys d h = stopped (all_greater key xs) key last xs ys d refl h

all_passed : (b : Bool) (key d : ℕ) (xs : List Entry) → all_greater key xs ≡ b → stop key (Some d) xs ≡ None → all_greater key xs ≡ true
all_passed true key d xs e h = e
all_passed false key d xs e h = let f = rw e at h in absurd (passed_some key d xs f)

pub stop_none : (key d : ℕ) (xs : List Entry) → stop key (Some d) xs ≡ None → all_greater key xs ≡ true
stop_none key d xs h = all_passed (all_greater key xs) key d xs refl h

pub stop_here : (key : ℕ) (last : Option ℕ) (xs ys : List Entry) (y : Entry) → all_greater key xs ≡ true → y.key ≤ key
    → stop key last (xs ++ y ∷ ys) ≡ last_of last xs
stop_here key last xs ys y h le =
    let e : all_greater key (xs ++ y ∷ ys) ≡ false = all_greater-past key xs (y ∷ ys) h ∙ rw (le-ltb key y.key le) in
    rw e (passed_past key last xs (y ∷ ys) h ∙ passed_stops key (last_of last xs) y ys le)

pub stop_later : (key : ℕ) (last : Option ℕ) (xs ys : List Entry) (y : Entry) → all_greater key xs ≡ true → key < y.key
    → stop key last (xs ++ y ∷ ys) ≡ stop key (Some y.elem) ys
stop_later key last xs ys y h lt =
    let e : all_greater key (xs ++ y ∷ ys) ≡ all_greater key ys = all_greater-past key xs (y ∷ ys) h ∙ rw (lt-ltb key y.key lt) in
    let f : passed key last (xs ++ y ∷ ys) ≡ passed key (Some y.elem) ys =
    passed_past key last xs (y ∷ ys) h ∙ passed_goes key (last_of last xs) y ys lt in
    rw (e, f)

-- along a path
pub last_there : (t : Tree) (path : List Side) (last : Option ℕ) → IsSome (entry_at t path)
    → last_of (elem_at t path) (after_at t path) ≡ last_of last (entries t)
last_there Leaf path last h = absurd (cc)
last_there (Fork l x r) [] last h = sym (last_of-append last (entries l) (entries r) x)
last_there (Fork l x r) (Left ∷ path) last h =
    last_of-append (elem_at l path) (after_at l path) (entries r) x ∙ sym (last_of-append last (entries l) (entries r) x)
last_there (Fork l x r) (Right ∷ path) last h =
    last_there r path (Some x.elem) h ∙ sym (last_of-append last (entries l) (entries r) x)

pub elem_there : (t : Tree) (path : List Side) → IsSome (entry_at t path) → (d : ℕ) × (elem_at t path ≡ Some d)
elem_there Leaf path h = absurd (cc)
elem_there (Fork l x r) [] h = (x.elem, refl)
elem_there (Fork l x r) (Left ∷ path) h = elem_there l path h
elem_there (Fork l x r) (Right ∷ path) h = elem_there r path h

-- what stopping or not says of the whole way
stopped_at : (b : Bool) (key d : ℕ) (last : Option ℕ) (xs : List Entry) → all_greater key xs ≡ b → stop key last xs ≡ Some d
    → passed key last xs ≡ Some d
stopped_at true key d last xs e h = let f = rw e at h in absurd (cc)
stopped_at false key d last xs e h = rw e at h

pub passed_stopped : (key d : ℕ) (last : Option ℕ) (xs : List Entry) → stop key last xs ≡ Some d → passed key last xs ≡ Some d
passed_stopped key d last xs h = stopped_at (all_greater key xs) key d last xs refl h

pub passed_all_there : (t : Tree) (path : List Side) (key : ℕ) → IsSome (entry_at t path)
    → stop key (elem_at t path) (after_at t path) ≡ None
    → passed key (elem_at t path) (after_at t path) ≡ last_of None (entries t)
passed_all_there t path key there h =
    let first = elem_there t path there in
    let all = stop_none key first.0 (after_at t path) (sym (ap (λ d. stop key d (after_at t path)) first.1) ∙ h) in
    passed_all key (elem_at t path) (after_at t path) all ∙ last_there t path None there
