-- Which operation a JSON object tells, or why it is refused (operations and clocks: Roh, Jeon, Kim and Lee 2011; JSON: RFC
-- 8259).
use Rattle.std.specs.Prelude.{ℕ, ◌==◌, nat_lt, if◌then◌else◌, Option, Some, None, option_and_then, option_map}
use Rattle.std.specs.Prelude.{is_some, Result, Ok, Err, List, length, [], ◌∷◌, codes, bytes_eq, slice_get}
use Rattle.std.specs.Str.{chars}
use Rattle.serde_json.specs.Data.{Data, Items, no_items, item}
use Rattle.serde_json.specs.Find.{get, at, as_null, as_array}
use Rattle.serde_json.specs.Events.{items_len}
use Rattle.opid.specs.declared.refusal.Refusal.{Refusal}
use Rattle.opid.specs.declared.refusal.Refusal.TheVariants.{BadField, BadSite, BadClock}
use Rattle.opid.specs.declared.stamp.Stamp.{Stamp}
use Rattle.opid.specs.declared.kind.OpKind.{OpKind}
use Rattle.opid.specs.declared.kind.OpKind.TheVariants.{Ins, Del}
use Rattle.opid.specs.declared.site.TheConstants.{SITES}
use Rattle.opid.specs.Clocks.{entry}
use Rattle.opid.specs.Operations.{Operation}
use Rattle.causal_clock.specs.Listing.{clock_told}
use Rattle.operation_json.specs.Members.{◌>>=◌, or_refuse, below, only_keys, number_told, number_at, text_at}

-- an operation as it is offered: its site, the pairs of its clock, and what it does, with sites of any number
pub record Offer : Type 0 where
  pub site : ℕ
  pub pairs : List (ℕ × ℕ)
  pub kind : OpKind

-- ---- lists

-- the step at each of a list: the first refusal stands
abbrev pub each : {A B : Type 0} → (A → Result B Refusal) → List A → Result (List B) Refusal
each f [] = Ok []
each f (x ∷ xs) = f x >>= λ y. each f xs >>= λ ys. Ok (y ∷ ys)

-- the items as a list
abbrev pub items_told : Items → List Data
items_told no_items = []
items_told (item d ds) = d ∷ items_told ds

-- the list at a key
abbrev pub list_at : List ℕ → Data → Result (List Data) Refusal
list_at key d = or_refuse BadField (option_map items_told (option_and_then as_array (get key d)))

-- ---- the members of an operation object

-- there are two items
abbrev pub two : Items → Option (Unit {0})
two ds = if items_len ds == 2 then Some tt else None

-- a list of two numbers
abbrev pub pair_of : Data → Result (ℕ × ℕ) Refusal
pair_of d = do
  both ← or_refuse BadField (option_and_then two (as_array d))
  x ← number_told (at 0 d)
  y ← number_told (at 1 d)
  Ok (x, y)

-- a value that has to be there
abbrev pub present : Option Data → Result Data Refusal
present d = or_refuse BadField d

-- a stamp is its sum and its site
abbrev pub stamp_told : Data → Result Stamp Refusal
stamp_told d = do
  p ← pair_of d
  Ok (record { sum = p.0; site = p.1 })

-- a stamp, or null for the head
abbrev pub parent_of : Data → Result (Option Stamp) Refusal
parent_of d = if is_some (as_null d) then Ok None else (stamp_told d >>= λ s. Ok (Some s))

-- the one character of a text
abbrev pub only_char : List ℕ → Option ℕ
only_char s = if length (chars s) == 1 then slice_get (chars s) 0 else None

-- the one character of the text at a key
abbrev pub one_character_at : List ℕ → Data → Result ℕ Refusal
one_character_at key d = text_at key d >>= λ s. or_refuse BadField (only_char s)

-- ---- the kinds: each with its keys

-- the insertion that an object offers
abbrev pub offered_insertion : Data → Result Offer Refusal
offered_insertion d = do
  keys ← only_keys (codes "c" ∷ codes "k" ∷ codes "p" ∷ codes "s" ∷ codes "x" ∷ []) d
  c ← list_at (codes "c") d
  pairs ← each pair_of c
  p ← present (get (codes "p") d)
  parent ← parent_of p
  s ← number_at (codes "s") d
  x ← one_character_at (codes "x") d
  Ok (record { site = s; pairs = pairs; kind = Ins parent x })

-- the deletion that an object offers
abbrev pub offered_deletion : Data → Result Offer Refusal
offered_deletion d = do
  keys ← only_keys (codes "c" ∷ codes "k" ∷ codes "s" ∷ codes "t" ∷ []) d
  c ← list_at (codes "c") d
  pairs ← each pair_of c
  s ← number_at (codes "s") d
  t ← present (get (codes "t") d)
  target ← stamp_told t
  Ok (record { site = s; pairs = pairs; kind = Del target })

-- what an object of this kind offers
abbrev pub offer_named : List ℕ → Data → Result Offer Refusal
offer_named k d =
    if bytes_eq k (codes "i") then offered_insertion d else (if bytes_eq k (codes "d") then offered_deletion d else Err BadField)

-- what an operation object offers
abbrev pub offer_of : Data → Result Offer Refusal
offer_of d = do
  k ← text_at (codes "k") d
  offer_named k d

-- ---- sites: an offer stays as it is where all of them are sites

-- the number of a site is at most 31
abbrev pub site_of : ℕ → Result ℕ Refusal
site_of n = or_refuse BadSite (below SITES n)

-- a pair whose first number is a site
abbrev pub sited_pair : ℕ × ℕ → Result (ℕ × ℕ) Refusal
sited_pair p = site_of p.0 >>= λ s. Ok (s, p.1)

-- a stamp whose site is one
abbrev pub sited_stamp : Stamp → Result Stamp Refusal
sited_stamp s = site_of s.site >>= λ n. Ok (record { sum = s.sum; site = n })

-- a kind whose stamp has a site
abbrev pub sited_kind : OpKind → Result OpKind Refusal
sited_kind (Ins None x) = Ok (Ins None x)
sited_kind (Ins (Some p) x) = sited_stamp p >>= λ s. Ok (Ins (Some s) x)
sited_kind (Del t) = sited_stamp t >>= λ s. Ok (Del s)

-- an offer all of whose sites are sites
abbrev pub sited : Offer → Result Offer Refusal
sited o = do
  s ← site_of o.site
  pairs ← each sited_pair o.pairs
  kind ← sited_kind o.kind
  Ok (record { site = s; pairs = pairs; kind = kind })

-- ---- clocks

-- the operation with the clock, which has to count it
abbrev pub with_clock : ℕ → List ℕ → OpKind → Result Operation Refusal
with_clock s clock kind = if nat_lt 0 (entry clock s) then Ok (record { site = s; clock = clock; kind = kind }) else Err BadClock

-- the operation that an offer tells, whose sites are sites
abbrev pub operation : Offer → Result Operation Refusal
operation o = do
  clock ← clock_told o.pairs
  with_clock o.site clock o.kind

-- ---- an operation object

-- the operation that a JSON value tells
abbrev pub op_of : Data → Result Operation Refusal
op_of d = do
  offered ← offer_of d
  here ← sited offered
  operation here
