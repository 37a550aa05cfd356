-- How much the parts of a fork show, and how much a list shows after a change.
use Rattle.std.proofs.Common.{◌≡◌, ℕ, ◌+◌, ◌-◌, ◌*◌, ◌≤◌, ◌<◌, Bool, true, false, cond, List, [], ◌∷◌, ◌++◌, length, Option, Some, None}
use Rattle.std.proofs.Common.{sym, ap, subst, arith, inl, inr, eq-eqb, length-append}
use Rattle.std.proofs.Math.Dec.{eqb}
use Rattle.std.specs.Prelude.{◌^◌}
use Rattle.std.specs.Option.{IfSome}
use Rattle.counted_tree.specs.declared.entry.Entry.{Entry}
use Rattle.counted_tree.specs.declared.size.Size.{Size}
use Rattle.counted_tree.specs.Entry.{visible, items_of, items, units}
use Rattle.counted_tree.specs.Internal.Size.{size_of, through, beyond, IsSizeOf, ShowsMore}
use Rattle.counted_tree.specs.Internal.Tree.{Tree, entries}
use Rattle.counted_tree.specs.Internal.Tree.Tree.{Fork}
use Rattle.counted_tree.specs.Changes.{Lists, put_after, put}
use Rattle.counted_tree.proofs.Counts.{two_at_most, length-items, length-items-le, length-visible-le}
use Rattle.counted_tree.proofs.Places.{length-fork}

pub shown-fork : (l r : List Entry) (x : Entry)
    → length (visible (l ++ x ∷ r)) ≡ length (visible l) + length (items_of false x) + length (visible r)
shown-fork l r x = omega (arith, length-fork (items_of false) l r x, length-items (l ++ x ∷ r), length-items l, length-items r)

pub units-fork : (l r : List Entry) (x : Entry)
    → length (units (l ++ x ∷ r)) ≡ length (units l) + length (items_of true x) + length (units r)
units-fork l r x = length-fork (items_of true) l r x

-- so many entries show no more than this
pub size_few : (s : Size) (xs : List Entry) → IsSizeOf s xs → (s.shown ≤ length xs) × (s.units ≤ 2 * length xs)
size_few s xs h = (omega (arith, length-visible-le xs, h.0), omega (arith, length-items-le true xs, h.1))

-- how much two lists and an entry between them show
pub through_lists : (t s m : Size) (xs ys : List Entry) (x : Entry) → t ≡ through s x m → IsSizeOf s xs → IsSizeOf m ys
    → IsSizeOf t (xs ++ x ∷ ys)
through_lists t s m xs ys x et a b = (
  omega (arith, shown-fork xs ys x, ap (λ (z : Size). z.shown) et, a.0, b.0),
  omega (arith, units-fork xs ys x, ap (λ (z : Size). z.units) et, a.1, b.1),
)

-- how much a fork shows, by its two sides
pub through_fork : (t s m : Size) (u l r : Tree) (x : Entry) → u ≡ Fork l x r → t ≡ through s x m → IsSizeOf s (entries l)
    → IsSizeOf m (entries r) → IsSizeOf t (entries u)
through_fork t s m u l r x eu et a b =
    subst (λ v. IsSizeOf t (entries v)) (sym eu) (through_lists t s m (entries l) (entries r) x et a b)

-- these are small numbers
pub through_small : (s m : Size) (xs ys : List Entry) (x : Entry) → IsSizeOf s xs → IsSizeOf m ys → length xs + length ys < 131072
    → (s.shown + length (items_of false x) + m.shown < 2 ^ 32) × (s.units + length (items_of true x) + m.units < 2 ^ 32)
through_small s m xs ys x a b few =
    let f = size_few s xs a in
    let g = size_few m ys b in
    (omega (arith, f.0, g.0, two_at_most false x, few), omega (arith, f.1, g.1, two_at_most true x, few))

-- the right side, by the whole and the left side
pub beyond_fork : (t s m : Size) (u l r v : Tree) (x : Entry) → u ≡ Fork l x r → v ≡ r → t ≡ beyond s m x → IsSizeOf s (entries u)
    → IsSizeOf m (entries l) → IsSizeOf t (entries v)
beyond_fork t s m u l r v x eu ev et a b =
    let shown = ap (λ (w : Tree). length (visible (entries w))) eu in
    let two = ap (λ (w : Tree). length (units (entries w))) eu in
    let right = ap (λ (w : Tree). length (visible (entries w))) ev in
    let right_two = ap (λ (w : Tree). length (units (entries w))) ev in (
      omega (arith, shown, right, shown-fork (entries l) (entries r) x, ap (λ (z : Size). z.shown) et, a.0, b.0),
      omega (arith, two, right_two, units-fork (entries l) (entries r) x, ap (λ (z : Size). z.units) et, a.1, b.1),
    )

-- the left side and the entry are a part of the whole
pub left_within : (s m : Size) (u l r : Tree) (x : Entry) → u ≡ Fork l x r → IsSizeOf s (entries u) → IsSizeOf m (entries l)
    → (m.shown + length (items_of false x) ≤ s.shown) × (m.units + length (items_of true x) ≤ s.units)
left_within s m u l r x eu a b =
    let shown = ap (λ (w : Tree). length (visible (entries w))) eu in
    let two = ap (λ (w : Tree). length (units (entries w))) eu in (
      omega (arith, shown, shown-fork (entries l) (entries r) x, a.0, b.0),
      omega (arith, two, units-fork (entries l) (entries r) x, a.1, b.1),
    )

-- with one entry more
pub more_first : (xs : List Entry) (x : Entry) → ShowsMore (size_of x) (x ∷ xs) xs
more_first xs x = (
  omega (arith, length-append (items_of false x) (items false xs), length-items (x ∷ xs), length-items xs),
  omega (arith, length-append (items_of true x) (items true xs)),
)

pub more_size : (t s m : Size) (xs ys : List Entry) → t ≡ record { shown = s.shown + m.shown; units = s.units + m.units }
    → ShowsMore m xs ys → IsSizeOf s ys → IsSizeOf t xs
more_size t s m xs ys e h k = (
  omega (arith, ap (λ (z : Size). z.shown) e, h.0, k.0),
  omega (arith, ap (λ (z : Size). z.units) e, h.1, k.1),
)

items-put_after : (u : Bool) (e : ℕ) (x : Entry) (xs : List Entry) → Lists e xs
    → length (items u (put_after e x xs)) ≡ length (items u xs) + length (items_of u x)
items-put_after u e x [] h = absurd h
items-put_after u e x (y ∷ xs) h =
    let here = length-append (items_of u y) (items u xs) in
    let after = length-append (items_of u y) (items u (x ∷ xs)) in
    let new = length-append (items_of u x) (items u xs) in
    elim h [
      | inl same ↦ rw (eq-eqb y.elem e same) (omega (arith, here, after, new))
      | inr later ↦ elim (eqb y.elem e) as (λ v. length (items u (cond v (y ∷ x ∷ xs) (y ∷ put_after e x xs)))
          ≡ length (items u (y ∷ xs)) + length (items_of u x)) [
            | true ↦ omega (arith, here, after, new)
            | false ↦ omega (arith, here, length-append (items_of u y) (items u (put_after e x xs)), items-put_after u e x xs later)
          ]
    ]

pub more_put : (o : Option ℕ) (x : Entry) (xs : List Entry) → IfSome o (λ e. Lists e xs) → ShowsMore (size_of x) (put o x xs) xs
more_put None x xs h = more_first xs x
more_put (Some e) x xs h = (
  omega (arith, items-put_after false e x xs h, length-items (put_after e x xs), length-items xs),
  items-put_after true e x xs h,
)

-- what a side shows more, the whole does
pub more_left : (s : Size) (l m r : List Entry) (x : Entry) → ShowsMore s l m → ShowsMore s (l ++ x ∷ r) (m ++ x ∷ r)
more_left s l m r x h = (
  omega (arith, shown-fork l r x, shown-fork m r x, h.0),
  omega (arith, units-fork l r x, units-fork m r x, h.1),
)

pub more_right : (s : Size) (l r m : List Entry) (x : Entry) → ShowsMore s r m → ShowsMore s (l ++ x ∷ r) (l ++ x ∷ m)
more_right s l r m x h = (
  omega (arith, shown-fork l r x, shown-fork l m x, h.0),
  omega (arith, units-fork l r x, units-fork l m x, h.1),
)

pub less_size : (t s m : Size) (xs ys : List Entry) → t ≡ record { shown = s.shown - m.shown; units = s.units - m.units }
    → ShowsMore m xs ys → IsSizeOf s xs → IsSizeOf t ys
less_size t s m xs ys e h k = (
  omega (arith, ap (λ (z : Size). z.shown) e, h.0, k.0),
  omega (arith, ap (λ (z : Size). z.units) e, h.1, k.1),
)

pub less_within : (s m : Size) (xs ys : List Entry) → ShowsMore m xs ys → IsSizeOf s xs → (m.shown ≤ s.shown) × (m.units ≤ s.units)
less_within s m xs ys h k = (omega (arith, h.0, k.0), omega (arith, h.1, k.1))
