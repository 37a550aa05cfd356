-- Operations packed into runs (the server's own): a run is an insertion and those that its site typed behind it, each directly
-- behind the one before. An operation is packed from the left: it joins the run before it where it is that run's next one and
-- the run has fewer than 64 characters.
use Rattle.std.specs.Prelude.{ℕ, ◌+◌, ◌==◌, nat_lt, Bool, true, false, ◌&&◌, if◌then◌else◌, Some, None, List, [], ◌∷◌, ◌++◌, length}
use Rattle.std.specs.Prelude.{bytes_eq}
use Rattle.std.specs.List.{flat_map}
use Rattle.opid.specs.declared.stamp.Stamp.{Stamp}
use Rattle.opid.specs.declared.kind.OpKind.{OpKind}
use Rattle.opid.specs.declared.kind.OpKind.TheVariants.{Ins, Del}
use Rattle.opid.specs.declared.limits.TheConstants.{MAX_RUN}
use Rattle.opid.specs.Clocks.{raised}
use Rattle.opid.specs.Stamps.{is_same}
use Rattle.opid.specs.Operations.{Operation, stamp_of}
use Rattle.opid.specs.Asked.{insertion_run}

-- ---- what a run stands for

-- the insertion of a character that the site of x makes next, with the element of x as its parent
abbrev pub typed_next : Operation → ℕ → Operation
typed_next x c = record { site = x.site; clock = raised x.clock x.site; kind = Ins (Some (stamp_of x)) c }

-- the insertions of these characters, each the next one after that before it: what its site asks for that types them behind x
abbrev pub typed_behind : Operation → List ℕ → List Operation
typed_behind x cs = insertion_run x.site x.clock (Some (stamp_of x)) cs

-- an operation, and the characters of the insertions that follow it: none where it stands alone
pub record Item : Type 0 where
  pub first : Operation
  pub more : List ℕ

-- the operations of an item
abbrev pub unfolded : Item → List Operation
unfolded i = i.first ∷ typed_behind i.first i.more

-- the operations of all items
abbrev pub unfolded_all : List Item → List Operation
unfolded_all items = flat_map unfolded items

-- ---- packing from the left

-- the last of an operation and those that follow it
abbrev pub last_typed : Operation → List ℕ → Operation
last_typed x [] = x
last_typed x (c ∷ cs) = last_typed (typed_next x c) cs

-- it is an insertion
abbrev pub is_insertion : OpKind → Bool
is_insertion (Ins parent ch) = true
is_insertion (Del target) = false

-- it is an insertion with this element as its parent
abbrev pub is_child : Stamp → OpKind → Bool
is_child s (Ins None ch) = false
is_child s (Ins (Some p) ch) = is_same p s
is_child s (Del target) = false

-- the character that an insertion puts in
abbrev pub inserted_character : OpKind → ℕ
inserted_character (Ins parent ch) = ch
inserted_character (Del target) = 0

-- x is an insertion, and y is the next one after it
abbrev pub is_typed_next : Operation → Operation → Bool
is_typed_next x y =
    is_insertion x.kind && (y.site == x.site && (bytes_eq y.clock (raised x.clock x.site) && is_child (stamp_of x) y.kind))

-- the item has fewer than 64 operations, and y is the next one after its last
abbrev pub joins : Item → Operation → Bool
joins i y = nat_lt (length i.more + 1) MAX_RUN && is_typed_next (last_typed i.first i.more) y

-- an operation by itself
abbrev pub alone : Operation → Item
alone x = record { first = x; more = [] }

-- the item with the character of one insertion more
abbrev pub with_one_more : Item → Operation → Item
with_one_more i y = record { first = i.first; more = i.more ++ inserted_character y.kind ∷ [] }

-- the item goes on with the operations as far as they join it
abbrev pub packed_behind : Item → List Operation → List Item
packed_behind i [] = i ∷ []
packed_behind i (y ∷ ys) = if joins i y then packed_behind (with_one_more i y) ys else i ∷ packed_behind (alone y) ys

-- the operations, packed from the left
abbrev pub packed_items : List Operation → List Item
packed_items [] = []
packed_items (x ∷ xs) = packed_behind (alone x) xs
