-- The elements in vectors, linked by numbers: what the links mean, and what is kept of them.
use Rattle.std.specs.Prelude.{◌≡◌, ◌≢◌, ◌<◌, ◌≤◌, ◌⊎◌, ℕ, zero, suc, true, false, Option, Some, None, List, [], ◌∷◌, ◌++◌, map, length}
use Rattle.std.specs.Prelude.{slice_index_or, slice_set, ◌+◌}
use Rattle.std.specs.List.{AllByRecursion}
use Rattle.opid.specs.declared.limits.TheConstants.{MAX_OPERATIONS}
use Rattle.opid.specs.declared.stamp.Stamp.{Stamp}
use Rattle.opid.specs.Stamps.{is_before}
use Rattle.rga_list.specs.Entries.{Entry}
use Rattle.rga_list.specs.Internal.SiteIds.{SiteIds, find_id}
use Rattle.rga_list.specs.declared.links.Node.{Node}

-- what a place past the end is read as
abbrev pub blank : Node
blank = record { stamp = record { sum = 0; site = 0 }; ch = 0; shown = false; next = None }

-- the node at a place
abbrev pub node_at : List Node → ℕ → Node
node_at nodes i = slice_index_or nodes i blank

-- the places along the links from `at` on, n of them at most
abbrev pub chain : ℕ → List Node → Option ℕ → List ℕ
chain zero nodes at = []
chain (suc n) nodes None = []
chain (suc n) nodes (Some i) = i ∷ chain n nodes (node_at nodes i).next

-- the places in the linked order
abbrev pub order_of : List Node → Option ℕ → List ℕ
order_of nodes first = chain (length nodes) nodes first

-- the entry that the node at a place stands for
abbrev pub entry_at : List Node → ℕ → Entry
entry_at nodes i = record { elem = i; stamp = (node_at nodes i).stamp; ch = (node_at nodes i).ch; shown = (node_at nodes i).shown }

-- the entries along the links
abbrev pub entries_of : List Node → Option ℕ → List Entry
entries_of nodes first = map (entry_at nodes) (order_of nodes first)

-- the links lead from one place to another over these
abbrev pub Leads : List Node → Option ℕ → List ℕ → Option ℕ → Type 0
Leads nodes at [] to = at ≡ to
Leads nodes at (i ∷ is) to = (at ≡ Some i) × (i < length nodes) × Leads nodes (node_at nodes i).next is to

-- no place twice
abbrev pub AreOnce : List ℕ → Type 0
AreOnce [] = Unit {0}
AreOnce (i ∷ is) = AllByRecursion (λ j. j ≢ i) is × AreOnce is

-- the place is one of these
abbrev pub IsOneOf : ℕ → List ℕ → Type 0
IsOneOf i [] = ⊥
IsOneOf i (j ∷ js) = (i ≡ j) ⊎ IsOneOf i js

-- the links lead from the first over every place once, to the end
pub record IsLinked (nodes : List Node) (first : Option ℕ) : Type 0 where
  pub leads : Leads nodes first (order_of nodes first) None
  pub once : AreOnce (order_of nodes first)
  pub each : length (order_of nodes first) ≡ length nodes
  pub covers : (i : ℕ) → i < length nodes → IsOneOf i (order_of nodes first)

-- no two places have one stamp
abbrev pub AreApart : List Node → Type 0
AreApart nodes = (i j : ℕ) → i < length nodes → j < length nodes → (node_at nodes i).stamp ≡ (node_at nodes j).stamp → i ≡ j

-- the row of a site
abbrev pub ids_at : List SiteIds → ℕ → SiteIds
ids_at rows site = slice_index_or rows site (record { ids = []; reserved = 0 })

-- the place that the rows name for a stamp
abbrev pub named : List SiteIds → Stamp → Option ℕ
named rows s = find_id s.sum (ids_at rows s.site).ids

-- the rows name each place by its stamp, and nothing else
pub record AreNamed (nodes : List Node) (rows : List SiteIds) : Type 0 where
  pub sites : (i : ℕ) → i < length nodes → (node_at nodes i).stamp.site < 32
  pub each : (i : ℕ) → i < length nodes → named rows (node_at nodes i).stamp ≡ Some i
  pub only : (s : Stamp) (i : ℕ) → named rows s ≡ Some i → (i < length nodes) × ((node_at nodes i).stamp ≡ s)

-- the memory that is reserved is there: in the vector of elements, and in each row
pub record AreReserved (nodes capacity : ℕ) (rows : List SiteIds) (reserved : ℕ) : Type 0 where
  pub elements : nodes + reserved ≤ capacity
  pub ids : (site : ℕ) → site < 32 → reserved ≤ (ids_at rows site).reserved

-- what holds of every list
pub record IsList (nodes : List Node) (first : Option ℕ) (rows : List SiteIds) : Type 0 where
  pub linked : IsLinked nodes first
  pub apart : AreApart nodes
  pub are_named : AreNamed nodes rows
  pub few : length nodes ≤ MAX_OPERATIONS
  pub width : length rows ≡ 32

-- the place after another one, or the first (None)
abbrev pub following : List Node → Option ℕ → Option ℕ → Option ℕ
following nodes first None = first
following nodes first (Some k) = (node_at nodes k).next

-- the last of these, or the one before them
abbrev pub last_of : Option ℕ → List ℕ → Option ℕ
last_of before [] = before
last_of before (i ∷ is) = last_of (Some i) is

-- the walk stops here: at the end, or before a stamp that is not greater
abbrev pub StopsAt : List Node → Stamp → List ℕ → Type 0
StopsAt nodes s [] = Unit {0}
StopsAt nodes s (i ∷ is) = is_before s (node_at nodes i).stamp ≡ false

-- From a place the walk goes past those with a greater stamp, and stops before the first other or at the end.
pub record Walks (nodes : List Node) (s : Stamp) (before at : Option ℕ) (last next : Option ℕ) (passed rest : List ℕ) : Type 0 where
  pub over : Leads nodes at passed next
  pub on : Leads nodes next rest None
  pub greater : AllByRecursion (λ i. is_before s (node_at nodes i).stamp ≡ true) passed
  pub last_is : last ≡ last_of before passed

-- the links lead from a place to the end, over few enough
abbrev pub Ends : List Node → Option ℕ → Type 0
Ends nodes at = (rest : List ℕ) × Leads nodes at rest None × (length rest ≤ length nodes)

-- a walk from a place to its end
abbrev pub Walked : List Node → Stamp → Option ℕ → Option ℕ → Option ℕ → Type 0
Walked nodes s before at last =
    (next : Option ℕ) × (passed rest : List ℕ) × Walks nodes s before at last next passed rest × StopsAt nodes s rest

-- a walk from a place so far
abbrev pub Walking : List Node → Stamp → Option ℕ → Option ℕ → Option ℕ → Option ℕ → Type 0
Walking nodes s before at last next = (passed rest : List ℕ) × Walks nodes s before at last next passed rest × (length rest ≤ length nodes)

-- the nodes with one more, and the link to it from the last one passed
abbrev pub put_in : List Node → Node → Option ℕ → List Node
put_in nodes v None = nodes ++ v ∷ []
put_in nodes v (Some p) = slice_set (nodes ++ v ∷ []) p (record (node_at nodes p) { next = Some (length nodes) })

-- the first place then
abbrev pub first_then : List Node → Option ℕ → Option ℕ → Option ℕ
first_then nodes first None = Some (length nodes)
first_then nodes first (Some p) = first
