-- The lists of all versions, after one more.
use Rattle.std.proofs.Common.{◌≡◌, ℕ, zero, suc, ◌+◌, ◌-◌, ◌<◌, ◌≤◌, List, [], ◌∷◌, ◌++◌, map, length, get_or, Option, refl, ap, ◌∙◌}
use Rattle.std.proofs.Common.{arith, inl, inr, subst}
use Rattle.std.proofs.lemmas.Bool.{ne_eqb}
use Rattle.std.proofs.lemmas.List.{map_push, get_or-map, get_or_push, length_push, length-map}
use Rattle.counted_tree.specs.declared.entry.Entry.{Entry}
use Rattle.counted_tree.specs.declared.kept.node.Node.{Node}
use Rattle.counted_tree.specs.Internal.Tree.{Tree, entries, height}
use Rattle.counted_tree.specs.Internal.Arena.{linked, trees, IsLinkBelow}
use Rattle.counted_tree.specs.declared.kept.root.Root.{Root}
use Rattle.counted_tree.specs.Internal.Store.{Store}
use Rattle.counted_tree.specs.Internal.Roots.{rooted, lists_of, no_root, newest_root, root_at}
use Rattle.counted_tree.specs.Internal.Growth.{IsGrown}
use Rattle.counted_tree.specs.Internal.Change.{Adds}

same_lists_of : (ns ms : List Node) (roots : List Root)
    → ((i : ℕ) → i < length roots → IsLinkBelow (length ns) (get_or roots i no_root).link)
    → ((l : Option ℕ) → IsLinkBelow (length ns) l → linked (trees ms) l ≡ linked (trees ns) l)
    → map (rooted ms) roots ≡ map (rooted ns) roots
same_lists_of ns ms [] below same = refl
same_lists_of ns ms (r ∷ roots) below same =
    let first : rooted ms r ≡ rooted ns r = ap entries (same r.link (below 0 (omega arith))) in
    let rest = same_lists_of ns ms roots (λ i h. below (suc i) (omega arith)) same in
    cc

pub lists_pushed : (ns ms : List Node) (roots : List Root) (top : Root)
    → ((i : ℕ) → i < length roots → IsLinkBelow (length ns) (get_or roots i no_root).link)
    → ((l : Option ℕ) → IsLinkBelow (length ns) l → linked (trees ms) l ≡ linked (trees ns) l)
    → lists_of ms (roots ++ top ∷ []) ≡ lists_of ns roots ++ rooted ms top ∷ []
lists_pushed ns ms roots top below same =
    ap (λ xs. [] ∷ xs) (map_push (rooted ms) roots top ∙ ap (λ xs. xs ++ rooted ms top ∷ []) (same_lists_of ns ms roots below same))

pub last_list : (ns : List Node) (roots : List Root) → get_or (lists_of ns roots) (length (lists_of ns roots) - 1) []
    ≡ rooted ns (get_or roots (length roots - 1) no_root)
last_list ns [] = refl
last_list ns (r ∷ roots) =
    let e : length (lists_of ns (r ∷ roots)) - 1 ≡ suc (length roots) = omega (arith, length-map roots (rooted ns)) in
    let f : length (r ∷ roots) - 1 ≡ length roots = omega arith in
    rw (e, f) (get_or-map (rooted ns) (r ∷ roots) (length roots) no_root [] (omega arith))

-- each version's root is none, or names a node
pub root_below : (ns : List Node) (roots : List Root) (v : ℕ)
    → ((i : ℕ) → i < length roots → IsLinkBelow (length ns) (get_or roots i no_root).link) → v ≤ length roots
    → IsLinkBelow (length ns) (root_at roots v).link
root_below ns roots zero below h = tt
root_below ns roots (suc n) below h =
    let at : n ≡ suc n - 1 = omega arith in
    rw (ne_eqb (suc n) 0 (omega arith)) (subst (λ i. IsLinkBelow (length ns) (get_or roots i no_root).link) at (below n (omega (arith, h))))

pub made_at_most : (old new : Tree) (m : ℕ) → IsGrown old new m → m ≤ height new + 3
made_at_most old new m g = elim (g.cases) [ inl w ↦ omega (arith, w.few, w.rises) | inr w ↦ omega (arith, w.few, w.stays) ]

pub adds_weaker : (a b : Store) (m n : ℕ) → m ≤ n → Adds a b m → Adds a b n
adds_weaker a b m n h p = record {
  longer = p.longer;
  at_most = omega (arith, p.at_most);
  reserve = p.reserve;
  sound =
      p.sound;
  stays = p.stays;
  keys_and_widths = p.keys_and_widths;
  reserved_keys_and_widths = p.reserved_keys_and_widths;
  same = p.same;
}

pub last_pushed : (xs : List (List Entry)) (x : List Entry) → get_or (xs ++ x ∷ []) (length (xs ++ x ∷ []) - 1) [] ≡ x
last_pushed xs x = get_or_push xs x [] (length (xs ++ x ∷ []) - 1) (omega (arith, length_push xs x))

pub root_pushed : (roots : List Root) (top : Root) → newest_root (roots ++ top ∷ []) ≡ top
root_pushed roots top = get_or_push roots top no_root (length (roots ++ top ∷ []) - 1) (omega (arith, length_push roots top))

-- the list of a version is that of its root
pub list_at : (ns : List Node) (roots : List Root) (v : ℕ) → v ≤ length roots
    → get_or (lists_of ns roots) v [] ≡ rooted ns (root_at roots v)
list_at ns roots zero h = refl
list_at ns roots (suc v) h =
    let e : suc v - 1 ≡ v = omega arith in
    rw (ne_eqb (suc v) 0 (omega arith), e) (get_or-map (rooted ns) roots v no_root [] (omega arith))
