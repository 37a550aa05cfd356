-- Trees that are settled: where a side is, the whole is, and where no key in the tree was greater than the new one.
use Rattle.std.proofs.Common.{◌≡◌, ◌∷◌, List, length, Option, Some, refl, sym, ap, ◌∙◌, subst, arith}
use Rattle.std.specs.List.{slice_get}
use Rattle.counted_tree.specs.declared.kept.above.Above.{Above}
use Rattle.counted_tree.specs.declared.entry.Entry.{Entry}
use Rattle.counted_tree.specs.declared.kept.row.Row.{Row}
use Rattle.counted_tree.specs.declared.kept.side.Side.TheVariants.{Left, Right}
use Rattle.counted_tree.specs.Internal.Keys.{least_key}
use Rattle.counted_tree.specs.Internal.Tree.{Tree, entries, height}
use Rattle.counted_tree.specs.Internal.Tree.Tree.{Fork}
use Rattle.counted_tree.specs.Internal.GrownTree.{KeepsRow}
use Rattle.counted_tree.specs.Internal.Table.{PointsTo, IsReady, Hangs, pointed}
use Rattle.counted_tree.proofs.Counts.{least-fork}
use Rattle.counted_tree.proofs.Tables.{absent_top, apart_turned, own_split, pointed_others}

-- a fork has the row of another over the same element, as high and with the same least key
same_row : (tb : List Row) (a : Option Above) (l r m q : Tree) (x : Entry) → height (Fork m x q) ≡ height (Fork l x r)
    → least_key (entries (Fork m x q)) ≡ least_key (entries (Fork l x r)) → PointsTo tb (Fork l x r) a → PointsTo tb (Fork m x q) a
same_row tb a l r m q x high least p =
    subst (λ n. slice_get tb x.elem ≡ Some (record { above = a; least = n; height = height (Fork m x q) })) (sym least)
    (subst (λ n. slice_get tb x.elem ≡ Some (record { above = a; least = least_key (entries (Fork l x r)); height = n })) (sym high) p)

pub settled_left : (tb : List Row) (a b : Option Above) (l s r : Tree) (x : Entry) → KeepsRow tb b l s → PointsTo tb (Fork l x r) a
    → KeepsRow tb a (Fork l x r) (Fork s x r)
settled_left tb a b l s r x h p =
    let high : height (Fork s x r) ≡ height (Fork l x r) = omega (arith, h.level) in
    let least : least_key (entries (Fork s x r)) ≡ least_key (entries (Fork l x r)) =
    omega (arith, h.least, least-fork (entries s) (entries r) x, least-fork (entries l) (entries r) x) in
    record { level = high; least = least; row = same_row tb a l r s r x high least p }

pub settled_right : (tb : List Row) (a b : Option Above) (l r s : Tree) (x : Entry) → KeepsRow tb b r s → PointsTo tb (Fork l x r) a
    → KeepsRow tb a (Fork l x r) (Fork l x s)
settled_right tb a b l r s x h p =
    let high : height (Fork l x s) ≡ height (Fork l x r) = omega (arith, h.level) in
    let least : least_key (entries (Fork l x s)) ≡ least_key (entries (Fork l x r)) =
    omega (arith, h.least, least-fork (entries l) (entries s) x, least-fork (entries l) (entries r) x) in
    record { level = high; least = least; row = same_row tb a l r l s x high least p }

-- both sides hang already
pub hangs_settled : (tb : List Row) (l r : Tree) (x : Entry) → IsReady tb l x r
    → PointsTo tb l (Some (record { elem = x.elem; side = Left })) → PointsTo tb r (Some (record { elem = x.elem; side = Right }))
    → Hangs tb tb (Fork l x r)
hangs_settled tb l r x ready left right = record { long = refl; kept = (ready.left, ready.right, left, right); others = λ e h. refl }

-- the row of the top stays where a side is hung
pub settles_left : (old new : List Row) (a b : Option Above) (l s r : Tree) (x : Entry) → IsReady old s x r → new ≡ pointed old s b
    → height (Fork s x r) ≡ height (Fork l x r) → least_key (entries (Fork s x r)) ≡ least_key (entries (Fork l x r))
    → PointsTo old (Fork l x r) a → KeepsRow new a (Fork l x r) (Fork s x r)
settles_left old new a b l s r x ready en high least p =
    let split = own_split (length old) (entries s) (x ∷ entries r) ready.own in
    let off = absent_top s x.elem (apart_turned (entries s) (x ∷ entries r) split.apart).0 in
    let still = ap (λ tb. slice_get tb x.elem) en ∙ pointed_others s old b x.elem off ∙ p in
    record { level = high; least = least; row = same_row new a l r s r x high least still }

pub settles_right : (old new : List Row) (a b : Option Above) (l r s : Tree) (x : Entry) → IsReady old l x s → new ≡ pointed old s b
    → height (Fork l x s) ≡ height (Fork l x r) → least_key (entries (Fork l x s)) ≡ least_key (entries (Fork l x r))
    → PointsTo old (Fork l x r) a → KeepsRow new a (Fork l x r) (Fork l x s)
settles_right old new a b l r s x ready en high least p =
    let split = own_split (length old) (entries l) (x ∷ entries s) ready.own in
    let off = absent_top s x.elem split.back.1 in
    let still = ap (λ tb. slice_get tb x.elem) en ∙ pointed_others s old b x.elem off ∙ p in
    record { level = high; least = least; row = same_row new a l r l s x high least still }
