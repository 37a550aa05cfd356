-- The one text of an operation, and of operations packed: compact JSON (RFC 8259), its keys in the order of their bytes. The form is
-- the server's own.
use Rattle.std.specs.Prelude.{ℕ, ◌<◌, ◌^◌, nat_lt, IsTrue, Option, Some, None, List, [], ◌∷◌, ◌++◌, map, filter, codes, decimal}
use Rattle.std.specs.Str.{all_scalars}
use Rattle.opid.specs.declared.stamp.Stamp.{Stamp}
use Rattle.opid.specs.declared.kind.OpKind as kind
use Rattle.opid.specs.declared.kind.OpKind.TheVariants as kinds
use Rattle.opid.specs.declared.site.TheConstants.{SITES}
use Rattle.opid.specs.Clocks.{sites, entry}
use Rattle.opid.specs.Operations.{Operation}
use Rattle.opid.specs.Kinds.{IsOperation}
use Rattle.operation_json.specs.Packing.{Item, packed_items}
use Rattle.json_bytes.specs.Quote.{quote}

-- the stamp's sum fits 32 bits, and its site is one of 32
abbrev pub IsStampInRange : Stamp → Type 0
IsStampInRange s = (s.sum < 2 ^ 32) × (s.site < SITES)

-- the stamp that the operation names is one, and its character is a Unicode scalar value
abbrev pub IsKindInRange : kind.OpKind → Type 0
IsKindInRange (kinds.Ins None c) = IsTrue (all_scalars (c ∷ []))
IsKindInRange (kinds.Ins (Some p) c) = IsStampInRange p × IsTrue (all_scalars (c ∷ []))
IsKindInRange (kinds.Del t) = IsStampInRange t

-- an operation that a value of its type tells, whose stamp and character are within their ranges
abbrev pub IsOperationInRange : Operation → Type 0
IsOperationInRange x = IsOperation x × IsKindInRange x.kind

-- texts with a comma before each
abbrev pub more : List (List ℕ) → List ℕ
more [] = []
more (x ∷ xs) = codes "," ++ x ++ more xs

-- texts in brackets with commas between them
abbrev pub in_brackets : List (List ℕ) → List ℕ
in_brackets [] = codes "[]"
in_brackets (x ∷ xs) = codes "[" ++ x ++ more xs ++ codes "]"

-- the entries of a clock that aren't 0, each with its site, by rising sites
abbrev pub pairs_of : List ℕ → List (ℕ × ℕ)
pairs_of clock = filter (λ p. nat_lt 0 p.1) (map (λ site. (site, entry clock site)) sites)

-- a pair is a list of two numbers
abbrev pub pair_text : ℕ × ℕ → List ℕ
pair_text p = codes "[" ++ decimal p.0 ++ codes "," ++ decimal p.1 ++ codes "]"

-- the text of a clock: its pairs
abbrev pub clock_text : List ℕ → List ℕ
clock_text clock = in_brackets (map pair_text (pairs_of clock))

-- a stamp is its sum and its site
abbrev pub stamp_text : Stamp → List ℕ
stamp_text s = codes "[" ++ decimal s.sum ++ codes "," ++ decimal s.site ++ codes "]"

-- a parent is a stamp, or null for the head
abbrev pub parent_text : Option Stamp → List ℕ
parent_text None = codes "null"
parent_text (Some s) = stamp_text s

-- the text of an operation of this site, clock and kind
abbrev pub op_text_of : ℕ → List ℕ → kind.OpKind → List ℕ
op_text_of s clock (kinds.Ins parent c) = codes "{\"c\":" ++ clock_text clock ++ codes ",\"k\":\"i\",\"p\":" ++ parent_text parent
    ++ codes ",\"s\":" ++ decimal s ++ codes ",\"x\":" ++ quote (c ∷ []) ++ codes "}"
op_text_of s clock (kinds.Del target) = codes "{\"c\":" ++ clock_text clock ++ codes ",\"k\":\"d\",\"s\":" ++ decimal s ++ codes ",\"t\":"
    ++ stamp_text target ++ codes "}"

-- the text of an operation
abbrev pub op_text : Operation → List ℕ
op_text x = op_text_of x.site x.clock x.kind

-- the text of a run: an insertion of this site and clock, and the characters of those that follow it
abbrev pub run_text_of : ℕ → List ℕ → kind.OpKind → List ℕ → List ℕ
run_text_of s clock (kinds.Ins parent c) cs = codes "{\"c\":" ++ clock_text clock ++ codes ",\"k\":\"r\",\"p\":" ++ parent_text parent
    ++ codes ",\"s\":" ++ decimal s ++ codes ",\"x\":" ++ quote (c ∷ cs) ++ codes "}"
run_text_of s clock (kinds.Del target) cs = op_text_of s clock (kinds.Del target)

-- the text of an operation that stands alone, or of a run
abbrev pub item_text_of : Operation → List ℕ → List ℕ
item_text_of x [] = op_text x
item_text_of x (c ∷ cs) = run_text_of x.site x.clock x.kind (c ∷ cs)

-- the text of an item
abbrev pub item_text : Item → List ℕ
item_text i = item_text_of i.first i.more

-- the one text of operations: packed
abbrev pub packed_text : List Operation → List ℕ
packed_text ops = in_brackets (map item_text (packed_items ops))
