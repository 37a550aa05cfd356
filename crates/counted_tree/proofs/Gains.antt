-- What a list's further entry changes: its length, how much it shows, its least key.
use Rattle.std.proofs.Common.{◌≡◌, ◌+◌, Bool, true, false, List, [], ◌∷◌, ◌++◌, length, min}
use Rattle.std.proofs.Common.{refl, sym, ap, ◌∙◌, arith, append_assoc, length-append}
use Rattle.std.proofs.lemmas.Grind.{flat_map-append}
use Rattle.counted_tree.specs.declared.entry.Entry.{Entry}
use Rattle.counted_tree.specs.declared.kept.side.Side.{Side}
use Rattle.counted_tree.specs.declared.kept.side.Side.TheVariants.{Left, Right}
use Rattle.counted_tree.specs.Entry.{items_of, items}
use Rattle.counted_tree.specs.Internal.Keys.{least_key}
use Rattle.counted_tree.specs.Internal.Size.{size_of, ShowsMore}
use Rattle.counted_tree.specs.Internal.Tree.{Tree, entries}
use Rattle.counted_tree.specs.Internal.Tree.Tree.{Leaf, Fork}
use Rattle.counted_tree.specs.Internal.PathEntries.{inserted_at}
use Rattle.counted_tree.specs.Internal.Growth.{Gains}
use Rattle.counted_tree.proofs.Counts.{length-items, least-fork, least_within}
use Rattle.counted_tree.proofs.Places.{length-fork}

length-items-append : (u : Bool) (a b : List Entry) → length (items u (a ++ b)) ≡ length (items u a) + length (items u b)
length-items-append u a b = ap length (flat_map-append (items_of u) a b) ∙ length-append (items u a) (items u b)

least-append : (a b : List Entry) → least_key (a ++ b) ≡ min (least_key a) (least_key b)
least-append [] b = omega (arith, least_within b)
least-append (y ∷ a) b = omega (arith, least-append a b)

module _ (new : Entry) (xs ys : List Entry) (g : Gains new xs ys) where
  pub gains_one : length ys ≡ length xs + 1
  gains_one = omega (
    arith,
    ap length g.without,
    ap length g.with_it,
    length-append g.front g.back,
    length-append g.front (new ∷ g.back),
  )

  items_gain : (u : Bool) → length (items u ys) ≡ length (items u xs) + length (items_of u new)
  items_gain u = omega (
    arith,
    ap (λ zs. length (items u zs)) g.without,
    ap (λ zs. length (items u zs)) g.with_it,
    length-items-append u g.front g.back,
    length-fork (items_of u) g.front g.back new,
  )

  pub gains_size : ShowsMore (size_of new) ys xs
  gains_size = (omega (arith, items_gain false, length-items ys, length-items xs), items_gain true)

  pub gains_least : least_key ys ≡ min (least_key xs) new.key
  gains_least = omega (
    arith,
    ap least_key g.without,
    ap least_key g.with_it,
    least-append g.front g.back,
    least-fork g.front g.back new,
  )

-- what a side gains, the whole does
unfoldable pub gains_left : (new x : Entry) (xs ys zs : List Entry) → Gains new xs ys → Gains new (xs ++ x ∷ zs) (ys ++ x ∷ zs)
gains_left new x xs ys zs g = record {
  front = g.front;
  back = g.back ++ x ∷ zs;
  without = ap (λ us. us ++ x ∷ zs) g.without ∙ append_assoc g.front g.back (x ∷ zs);
  with_it = ap (λ us. us ++ x ∷ zs) g.with_it ∙ append_assoc g.front (new ∷ g.back) (x ∷ zs);
}

unfoldable pub gains_right : (new x : Entry) (xs ys zs : List Entry) → Gains new xs ys → Gains new (zs ++ x ∷ xs) (zs ++ x ∷ ys)
gains_right new x xs ys zs g = record {
  front = zs ++ x ∷ g.front;
  back = g.back;
  without = ap (λ us. zs ++ x ∷ us) g.without ∙ sym (append_assoc zs (x ∷ g.front) g.back);
  with_it = ap (λ us. zs ++ x ∷ us) g.with_it ∙ sym (append_assoc zs (x ∷ g.front) (new ∷ g.back));
}

unfoldable pub gains_first : (new : Entry) (xs : List Entry) → Gains new xs (new ∷ xs)
gains_first new xs = record { front = []; back = xs; without = refl; with_it = refl }

unfoldable pub gains_inserted : (new : Entry) (t : Tree) (path : List Side) → Gains new (entries t) (inserted_at t path new)
gains_inserted new Leaf path = gains_first new []
gains_inserted new (Fork l x r) [] = gains_right new x (entries r) (new ∷ entries r) (entries l) (gains_first new (entries r))
gains_inserted new (Fork l x r) (Left ∷ path) =
    gains_left new x (entries l) (inserted_at l path new) (entries r) (gains_inserted new l path)
gains_inserted new (Fork l x r) (Right ∷ path) =
    gains_right new x (entries r) (inserted_at r path new) (entries l) (gains_inserted new r path)
