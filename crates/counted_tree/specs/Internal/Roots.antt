-- How a version tree stands for its versions: a root for each, over nodes that they share.
use Rattle.std.specs.Prelude.{ℕ, ◌+◌, ◌-◌, ◌*◌, ◌<◌, ◌≤◌, ◌==◌, if◌then◌else◌, List, [], ◌∷◌, map, length, None, slice_index_or}
use Rattle.counted_tree.specs.declared.entry.TheConstants.{MAX_ELEMENTS}
use Rattle.counted_tree.specs.declared.entry.Entry.{Entry}
use Rattle.counted_tree.specs.declared.kept.node.Node.{Node}
use Rattle.counted_tree.specs.declared.kept.root.Root.{Root}
use Rattle.counted_tree.specs.Internal.Size.{IsSizeOf}
use Rattle.counted_tree.specs.Internal.Store.{Store}
use Rattle.counted_tree.specs.Internal.Arena.{IsLinkBelow, AreSound, list_of}

-- the root of the empty tree
abbrev pub no_root : Root
no_root = record { link = None; size = record { shown = 0; units = 0 } }

-- the newest root, and where there is none that of the empty tree
abbrev pub newest_root : List Root → Root
newest_root roots = slice_index_or roots (length roots - 1) no_root

-- the root of a version
abbrev pub root_at : List Root → ℕ → Root
root_at roots v = if v == 0 then no_root else slice_index_or roots (v - 1) no_root

-- the list of a root
abbrev pub rooted : List Node → Root → List Entry
rooted ns root = list_of ns root.link

-- version 0 is empty, and each root is a version's
abbrev pub lists_of : List Node → List Root → List (List Entry)
lists_of ns roots = [] ∷ map (rooted ns) roots

-- the nodes are sound, each root names one and tells how much it shows, no version has more entries than its number, and the
-- reserve has the nodes for each version
pub record AreVersions (store : Store) (roots : List Root) (more : ℕ) : Type 0 where
  pub sound : AreSound store.nodes
  pub links : (i : ℕ) → i < length roots → IsLinkBelow (length store.nodes) (slice_index_or roots i no_root).link
  pub shows : (i : ℕ) → i < length roots
      → IsSizeOf (slice_index_or roots i no_root).size (rooted store.nodes (slice_index_or roots i no_root))
  pub lengths : (i : ℕ) → i < length roots → length (rooted store.nodes (slice_index_or roots i no_root)) ≤ i + 1
  pub few_nodes : length store.nodes ≤ 31 * length roots
  pub reserved : 31 * more ≤ store.reserved_nodes
  pub limit : length roots + more ≤ MAX_ELEMENTS
