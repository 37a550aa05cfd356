-- The JSON value of an operation, and of a run.
use Rattle.std.specs.Prelude.{ℕ, Option, Some, None, List, [], ◌∷◌, codes, encode_utf8_all}
use Rattle.serde_json.specs.Data.{Data, null, Items, no_items, item, string, number, unsigned, array, object, member, no_members}
use Rattle.opid.specs.declared.stamp.Stamp.{Stamp}
use Rattle.opid.specs.declared.kind.OpKind as kind
use Rattle.opid.specs.declared.kind.OpKind.TheVariants as kinds
use Rattle.opid.specs.Operations.{Operation}
use Rattle.operation_json.specs.Packing.{Item}
use Rattle.operation_json.specs.Text.{pairs_of}

-- the values of a list
abbrev pub each_data : {A : Type 0} → (A → Data) → List A → Items
each_data f [] = no_items
each_data f (x ∷ xs) = item (f x) (each_data f xs)

-- the value of two numbers
abbrev pub two_data : ℕ → ℕ → Data
two_data m n = array (item (number (unsigned m)) (item (number (unsigned n)) no_items))

-- the value of a pair
abbrev pub pair_data : ℕ × ℕ → Data
pair_data p = two_data p.0 p.1

-- the values of a clock's pairs
abbrev pub pairs_data : List ℕ → Items
pairs_data clock = each_data pair_data (pairs_of clock)

-- the value of a stamp
abbrev pub stamp_data : Stamp → Data
stamp_data s = two_data s.sum s.site

-- the value of a parent
abbrev pub parent_data : Option Stamp → Data
parent_data None = null
parent_data (Some s) = stamp_data s

-- the value of what is typed: an insertion or a run, each with its letter and its text
abbrev pub typed_data : List ℕ → ℕ → List ℕ → Option Stamp → List ℕ → Data
typed_data letter s clock parent x = object (member (codes "c") (array (pairs_data clock))
    (member (codes "k") (string letter) (member (codes "p") (parent_data parent)
    (member (codes "s") (number (unsigned s)) (member (codes "x") (string x) no_members)))))

-- the value of a deletion
abbrev pub deletion_data : ℕ → List ℕ → Stamp → Data
deletion_data s clock target = object (member (codes "c") (array (pairs_data clock))
    (member (codes "k") (string (codes "d")) (member (codes "s") (number (unsigned s))
    (member (codes "t") (stamp_data target) no_members))))

-- the value of an operation of this site, clock and kind
abbrev pub op_data_of : ℕ → List ℕ → kind.OpKind → Data
op_data_of s clock (kinds.Ins parent c) = typed_data (codes "i") s clock parent (encode_utf8_all (c ∷ []))
op_data_of s clock (kinds.Del target) = deletion_data s clock target

-- the value of an operation
abbrev pub op_data : Operation → Data
op_data x = op_data_of x.site x.clock x.kind

-- the value of a run: an insertion of this site and clock, and the characters of those that follow it
abbrev pub run_data_of : ℕ → List ℕ → kind.OpKind → List ℕ → Data
run_data_of s clock (kinds.Ins parent c) cs = typed_data (codes "r") s clock parent (encode_utf8_all (c ∷ cs))
run_data_of s clock (kinds.Del target) cs = op_data_of s clock (kinds.Del target)

-- the value of an operation that stands alone, or of a run
abbrev pub item_data_of : Operation → List ℕ → Data
item_data_of x [] = op_data x
item_data_of x (c ∷ cs) = run_data_of x.site x.clock x.kind (c ∷ cs)

-- the value of an item
abbrev pub item_data : Item → Data
item_data i = item_data_of i.first i.more
