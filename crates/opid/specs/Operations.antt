-- Operations, and the insertions and deletions among them (Roh, Jeon, Kim and Lee 2011).
use Rattle.std.specs.Prelude.{ℕ, Bool, Option, List, [], ◌∷◌, sum}
use Rattle.std.specs.List.{flat_map, list_any}
use Rattle.opid.specs.declared.stamp.Stamp.{Stamp}
use Rattle.opid.specs.declared.kind.OpKind.{OpKind}
use Rattle.opid.specs.declared.kind.OpKind.TheVariants.{Ins, Del}
use Rattle.opid.specs.Clocks.{entry}
use Rattle.opid.specs.Stamps.{is_same}

-- an operation: the site that made it, its vector clock (a count for each of 32 sites), and what it does
pub record Operation : Type 0 where
  pub site : ℕ
  pub clock : List ℕ
  pub kind : OpKind

-- the stamp of an operation with this clock at a site
abbrev pub stamp_at : ℕ → List ℕ → Stamp
stamp_at site clock = record { sum = sum clock; site = site }

-- its stamp: the sum of its clock, and its site
abbrev pub stamp_of : Operation → Stamp
stamp_of x = stamp_at x.site x.clock

-- its number: its site, and the own entry of its clock
abbrev pub number_of : Operation → ℕ × ℕ
number_of x = (x.site, entry x.clock x.site)

-- an insertion is an element: its stamp, the stamp of its parent (None: the head), its character
pub record Insertion : Type 0 where
  pub stamp : Stamp
  pub parent : Option Stamp
  pub ch : ℕ

-- the insertion of an operation with this stamp and kind, if it is one
abbrev pub inserted_by : Stamp → OpKind → List Insertion
inserted_by s (Ins parent ch) = record { stamp = s; parent = parent; ch = ch } ∷ []
inserted_by s (Del target) = []

-- the stamp of the element that an operation of this kind deletes, if it deletes one
abbrev pub targets_of : OpKind → List Stamp
targets_of (Ins parent ch) = []
targets_of (Del target) = target ∷ []

-- the insertions among the operations
abbrev pub insertions : List Operation → List Insertion
insertions ops = flat_map (λ x. inserted_by (stamp_of x) x.kind) ops

-- what the deletions among the operations delete
abbrev pub targets : List Operation → List Stamp
targets ops = flat_map (λ x. targets_of x.kind) ops

-- an insertion among the operations has the stamp
abbrev pub has_element : List Operation → Stamp → Bool
has_element ops s = list_any (λ x. is_same s x.stamp) (insertions ops)

-- a deletion among the operations has it as its target
abbrev pub is_deleted : List Operation → Stamp → Bool
is_deleted ops s = list_any (λ t. is_same s t) (targets ops)
