-- The versions after one more.
use Rattle.std.proofs.Common.{◌≡◌, ℕ, zero, suc, refl, ◌+◌, ◌-◌, ◌*◌, ◌≤◌, List, [], ◌∷◌, ◌++◌, length, get_or}
use Rattle.std.proofs.Common.{sym, ap, subst, ◌∙◌, arith, inl, inr}
use Rattle.std.proofs.lemmas.Bool.{cases_lt, ne_eqb}
use Rattle.std.proofs.lemmas.List.{get_or_append_left, get_or_push, length_push}
use Rattle.counted_tree.specs.Internal.Tree.{entries}
use Rattle.counted_tree.specs.declared.kept.root.Root.{Root}
use Rattle.counted_tree.specs.Internal.Size.{IsSizeOf}
use Rattle.counted_tree.specs.Internal.Store.{Store, with_element}
use Rattle.counted_tree.specs.Internal.Arena.{IsLinkBelow}
use Rattle.counted_tree.specs.Internal.Roots.{AreVersions, rooted, no_root, newest_root, root_at}
use Rattle.counted_tree.specs.Internal.Change.{Adds}
use Rattle.counted_tree.proofs.EarlierTrees.{link_later}
use Rattle.counted_tree.proofs.Sizes.{size_few}

-- the newest root tells how much it shows
pub last_shows : (a : Store) (roots : List Root) (reserved : ℕ) → AreVersions a roots reserved
    → IsSizeOf (newest_root roots).size (rooted a.nodes (newest_root roots))
last_shows a [] reserved v = (refl, refl)
last_shows a (r ∷ roots) reserved v = v.shows (length (r ∷ roots) - 1) (omega arith)

-- and so does that of each version
pub root_shows : (a : Store) (roots : List Root) (reserved n : ℕ) → AreVersions a roots reserved → n ≤ length roots
    → IsSizeOf (root_at roots n).size (rooted a.nodes (root_at roots n))
root_shows a roots reserved zero v h = (refl, refl)
root_shows a roots reserved (suc n) v h =
    let at : n ≡ suc n - 1 = omega arith in
    rw (ne_eqb (suc n) 0 (omega arith)) (subst (λ i. IsSizeOf (get_or roots i no_root).size (rooted a.nodes (get_or roots i no_root))) at
    (v.shows n (omega (arith, h))))

-- the newest list has at most as many entries as there are roots
pub last_size : (a : Store) (roots : List Root) (reserved : ℕ) → AreVersions a roots reserved
    → length (rooted a.nodes (get_or roots (length roots - 1) no_root)) ≤ length roots
last_size a [] reserved v = omega arith
last_size a (r ∷ roots) reserved v = omega (arith, v.lengths (length (r ∷ roots) - 1) (omega arith))

-- and shows no more elements than that, and no more than twice as many units
pub last_few : (a : Store) (roots : List Root) (reserved : ℕ) (root : Root) → AreVersions a roots reserved → root ≡ newest_root roots
    → (root.size.shown ≤ length roots) × (root.size.units ≤ 2 * length roots)
last_few a roots reserved root v e =
    let few = size_few (newest_root roots).size (rooted a.nodes (newest_root roots)) (last_shows a roots reserved v) in
    let last = last_size a roots reserved v in
    (omega (arith, few.0, last, ap (λ (r : Root). r.size.shown) e), omega (arith, few.1, last, ap (λ (r : Root). r.size.units) e))

-- with one element more, of which no node tells yet
pub versions_with_element : (a : Store) (key_and_width : ℕ) (roots : List Root) (reserved : ℕ) → AreVersions a roots reserved
    → AreVersions (with_element a key_and_width) roots reserved
versions_with_element a key_and_width roots reserved v = record {
  sound = v.sound;
  links = v.links;
  shows = v.shows;
  lengths = v.lengths;
  few_nodes = v.few_nodes;
  reserved = v.reserved;
  limit = v.limit;
}

pub versions_more : (a b : Store) (roots : List Root) (reserved : ℕ) (top : Root) → AreVersions a roots reserved → 1 ≤ reserved
    → Adds a b 28 → IsLinkBelow (length b.nodes) top.link → IsSizeOf top.size (rooted b.nodes top)
    → length (rooted b.nodes top) ≤ length roots + 1
    → AreVersions b (roots ++ top ∷ []) (reserved - 1)
versions_more a b roots reserved top v one p here size few = record {
  sound = p.sound;
  links = λ i h. elim (cases_lt i (length roots)) [
    | inl lt ↦ subst (λ r. IsLinkBelow (length b.nodes) r.link) (sym (get_or_append_left roots (top ∷ []) no_root i lt))
        (link_later _ _ (get_or roots i no_root).link p.longer (v.links i lt))
    | inr le ↦ subst (λ r. IsLinkBelow (length b.nodes) r.link)
        (sym (get_or_push roots top no_root i (omega (arith, h, le, length_push roots top)))) here
  ];
  shows = λ i h. elim (cases_lt i (length roots)) [
    | inl lt ↦
        let at = get_or_append_left roots (top ∷ []) no_root i lt in
        let e : rooted b.nodes (get_or roots i no_root) ≡ rooted a.nodes (get_or roots i no_root) =
        ap entries (p.same (get_or roots i no_root).link (v.links i lt)) in
        subst (λ r. IsSizeOf r.size (rooted b.nodes r)) (sym at) (subst (IsSizeOf (get_or roots i no_root).size) (sym e) (v.shows i lt))
    | inr le ↦ subst (λ r. IsSizeOf r.size (rooted b.nodes r))
        (sym (get_or_push roots top no_root i (omega (arith, h, le, length_push roots top)))) size
  ];
  lengths = λ i h. elim (cases_lt i (length roots)) [
    | inl lt ↦
        let e : rooted b.nodes (get_or (roots ++ top ∷ []) i no_root) ≡ rooted a.nodes (get_or roots i no_root) =
        ap (rooted b.nodes) (get_or_append_left roots (top ∷ []) no_root i lt)
        ∙ ap entries (p.same (get_or roots i no_root).link (v.links i lt)) in
        omega (arith, ap length e, v.lengths i lt)
    | inr le ↦
        let e : rooted b.nodes (get_or (roots ++ top ∷ []) i no_root) ≡ rooted b.nodes top =
        ap (rooted b.nodes) (get_or_push roots top no_root i (omega (arith, h, le, length_push roots top))) in
        omega (arith, ap length e, few, le)
  ];
  few_nodes = omega (arith, v.few_nodes, p.at_most, length_push roots top);
  reserved = omega (arith, v.reserved, p.reserve, p.at_most, one);
  limit = omega (arith, v.limit, length_push roots top, one);
}

-- the newest root names a node, or none
last_below : (a : Store) (roots : List Root) (reserved : ℕ) → AreVersions a roots reserved
    → IsLinkBelow (length a.nodes) (newest_root roots).link
last_below a [] reserved v = tt
last_below a (r ∷ roots) reserved v = v.links (length (r ∷ roots) - 1) (omega arith)

-- with the newest list again
pub versions_again : (a : Store) (roots : List Root) (reserved : ℕ) → AreVersions a roots reserved → 1 ≤ reserved
    → AreVersions a (roots ++ newest_root roots ∷ []) (reserved - 1)
versions_again a roots reserved v one =
    let none : Adds a a 28 = record {
      longer = omega arith;
      at_most = omega arith;
      reserve = refl;
      sound = v.sound;
      stays = λ i h. refl;
      keys_and_widths = refl;
      reserved_keys_and_widths = refl;
      same = λ link h. refl;
    } in
    versions_more a a roots reserved (newest_root roots) v one none (last_below a roots reserved v) (last_shows a roots reserved v)
    (omega (arith, last_size a roots reserved v))
