-- Which operations a list of JSON objects tells where run objects may be among them, or why it is refused. Each kind of fault
-- is sought in all objects before the next kind (JSON: RFC 8259; runs: the server's own).
use Rattle.std.specs.Prelude.{ℕ, ◌+◌, nat_le, if◌then◌else◌, Result, Ok, Err, List, [], ◌∷◌, length, take, codes, bytes_eq, sum}
use Rattle.std.specs.List.{flat_map}
use Rattle.std.specs.Str.{chars}
use Rattle.serde_json.specs.Data.{Data}
use Rattle.serde_json.specs.Find.{get}
use Rattle.opid.specs.declared.refusal.Refusal.{Refusal}
use Rattle.opid.specs.declared.refusal.Refusal.TheVariants.{BadField, BadClock}
use Rattle.opid.specs.declared.kind.OpKind.TheVariants.{Ins}
use Rattle.opid.specs.declared.limits.TheConstants.{MAX_OPERATIONS}
use Rattle.opid.specs.Operations.{Operation}
use Rattle.operation_json.specs.Members.{◌>>=◌, only_keys, number_at, text_at}
use Rattle.operation_json.specs.Operations.{Offer, each, list_at, pair_of, present, parent_of, offer_named, sited, operation}
use Rattle.operation_json.specs.Packing.{typed_behind}

-- an operation as it is offered, and the characters of the insertions that follow it
pub record ItemOffer : Type 0 where
  pub first : Offer
  pub more : List ℕ

-- ---- the members of an object

-- the first of 2 to 64 characters, and those behind it
abbrev pub run_chars : List ℕ → Result (ℕ × List ℕ) Refusal
run_chars [] = Err BadField
run_chars (c ∷ []) = Err BadField
run_chars (c ∷ d ∷ cs) = if nat_le (length cs) 62 then Ok (c, d ∷ cs) else Err BadField

-- the run that an object offers
abbrev pub run_of : Data → Result ItemOffer Refusal
run_of d = do
  keys ← only_keys (codes "c" ∷ codes "k" ∷ codes "p" ∷ codes "s" ∷ codes "x" ∷ []) d
  c ← list_at (codes "c") d
  pairs ← each pair_of c
  p ← present (get (codes "p") d)
  parent ← parent_of p
  s ← number_at (codes "s") d
  x ← text_at (codes "x") d
  cs ← run_chars (chars x)
  Ok (record { first = record { site = s; pairs = pairs; kind = Ins parent cs.0 }; more = cs.1 })

-- an operation by itself
abbrev pub lone : Offer → Result ItemOffer Refusal
lone o = Ok (record { first = o; more = [] })

-- what an object of this kind offers
abbrev pub item_named : List ℕ → Data → Result ItemOffer Refusal
item_named k d = if bytes_eq k (codes "r") then run_of d else (offer_named k d >>= lone)

-- what an operation object or a run object offers
abbrev pub item_offer_of : Data → Result ItemOffer Refusal
item_offer_of d = do
  k ← text_at (codes "k") d
  item_named k d

-- ---- sites and clocks

-- an offer all of whose sites are sites
abbrev pub item_sited : ItemOffer → Result ItemOffer Refusal
item_sited o = do
  first ← sited o.first
  Ok (record { first = first; more = o.more })

-- an operation and those that follow it: none has a clock with a sum above 131,072
abbrev pub unfolded_if_counted : Operation → List ℕ → Result (List Operation) Refusal
unfolded_if_counted x cs = if nat_le (sum x.clock + length cs) MAX_OPERATIONS then Ok (x ∷ typed_behind x cs) else Err BadClock

-- the operations that an offer tells, whose sites are sites
abbrev pub item_operations : ItemOffer → Result (List Operation) Refusal
item_operations o = do
  x ← operation o.first
  unfolded_if_counted x o.more

-- the operations that a JSON value by itself tells, an operation object or a run object
abbrev pub item_ops_of : Data → Result (List Operation) Refusal
item_ops_of d = do
  offered ← item_offer_of d
  here ← item_sited offered
  item_operations here

-- ---- a list of objects

-- the lists one after another
abbrev pub concatenated : List (List Operation) → List Operation
concatenated xss = flat_map (λ xs. xs) xss

-- the operations that all offers tell
abbrev pub all_operations : List ItemOffer → Result (List Operation) Refusal
all_operations offers = do
  lists ← each item_operations offers
  Ok (concatenated lists)

-- the single operations that JSON values tell, of which each is an operation object or a run object
abbrev pub packed_ops_of : List Data → Result (List Operation) Refusal
packed_ops_of ds = do
  offered ← each item_offer_of ds
  here ← each item_sited offered
  all_operations here

-- of more than 64 operations, which a room refuses whatever they are, the first 65: so a few bytes that stand for many
-- operations don't take memory for all of them
abbrev pub first_65_of : Result (List Operation) Refusal → Result (List Operation) Refusal
first_65_of told = do
  ops ← told
  Ok (take 65 ops)

-- the operations that JSON values hand over
abbrev pub handed_over : List Data → Result (List Operation) Refusal
handed_over ds = first_65_of (packed_ops_of ds)

-- the single operations that the list at a key hands over
abbrev pub operations_at : List ℕ → Data → Result (List Operation) Refusal
operations_at k d = list_at k d >>= handed_over
