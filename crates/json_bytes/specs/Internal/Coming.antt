-- The values that come next of tokens, one after another, and the one that all are (RFC 8259).
use Rattle.std.specs.Prelude.{◌≡◌, ℕ, List, [], ◌∷◌, Option, option_and_then}
use Rattle.json.specs.Token.{Token, key}
use Rattle.json.specs.Json as json
use Rattle.serde_json.specs.Data.{Data, Items, no_items, item, Members, put}
use Rattle.serde_json.specs.Read.{of_json, max_depth}
use Rattle.json_bytes.specs.Plain.{Comes}

-- these values come first, one after another
abbrev pub TellsItems : ℕ → List Token → List Data → List Token → Type 0
TellsItems levels old [] new = old ≡ new
TellsItems levels old (d ∷ ds) new = (rest : List Token) × Comes levels old d rest × TellsItems levels rest ds new

-- these keys come first, each with its value
abbrev pub TellsEntries : ℕ → List Token → List (List ℕ × Data) → List Token → Type 0
TellsEntries levels old [] new = old ≡ new
TellsEntries levels old (e ∷ es) new =
    (mid : List Token) × (rest : List Token) × (old ≡ key e.0 ∷ mid) × Comes levels mid e.1 rest × TellsEntries levels rest es new

-- the list of these values
abbrev pub items_of : List Data → Items
items_of [] = no_items
items_of (d ∷ ds) = item d (items_of ds)

-- the members, put in one after another
abbrev pub put_entries : List (List ℕ × Data) → Members → Members
put_entries [] found = found
put_entries (e ∷ es) found = put_entries es (put e.0 e.1 found)

-- the value of a tree that no token follows
abbrev pub lone_value : Option (json.Json × List Token) → Option Data
lone_value o = option_and_then of_json (option_and_then (λ p. json.if_last p.0 p.1) o)

-- the value that these tokens are
abbrev pub value_of_tokens : List Token → Option Data
value_of_tokens ts = lone_value (json.value max_depth ts)
