-- The calls that tokens ask for, and the operations that they hand over.
use Rattle.std.specs.Prelude.{◌≡◌, ◌<◌, ◌^◌, ℕ, List, [], ◌∷◌, Ok, take, codes}
use Rattle.json.specs.Token.{Token, key, end_object}
use Rattle.serde_json.specs.Data.{Data, array, number, string, unsigned, object, no_members}
use Rattle.opid.specs.Operations.{Operation}
use Rattle.room_model.specs.declared.call.Call.{Call}
use Rattle.json_bytes.specs.Internal.Coming.{value_of_tokens, TellsItems, TellsEntries, items_of, put_entries}
use Rattle.operation_json.specs.Members.{json_of}
use Rattle.wire_json.specs.Request.{call_in}
use Rattle.operation_json.specs.Operations.{each}
use Rattle.operation_json.specs.PackedOperations.{ItemOffer, item_offer_of, item_sited, item_operations, concatenated, handed_over}
use Rattle.json_bytes.specs.Plain.{Comes}
use Rattle.std.specs.Prelude.{Some}

-- of the tokens `old` objects come first of whose operations these are the first 65, and `now` are the rest
pub record TellsOps (old : List Token) (ops : List Operation) (now : List Token) : Type 0 where
  pub values : List Data
  pub told : TellsItems 4 old values now
  pub offers : List ItemOffer
  pub offered : each item_offer_of values ≡ Ok offers
  pub here : List ItemOffer
  pub sited : each item_sited offers ≡ Ok here
  pub lists : List (List Operation)
  pub made : each item_operations here ≡ Ok lists
  pub kept : ops ≡ take 65 (concatenated lists)

-- of the tokens `old` a list comes first that hands these operations over, and `new` are the rest
pub record ReadsOps (old : List Token) (ops : List Operation) (new : List Token) : Type 0 where
  pub values : List Data
  pub first : Comes 5 old (array (items_of values)) new
  pub are : handed_over values ≡ Ok ops

-- of the tokens `old` this key comes first with this number, and `new` are the rest
pub record ReadsField (old : List Token) (name : List ℕ) (n : ℕ) (new : List Token) : Type 0 where
  pub mid : List Token
  pub first : old ≡ key name ∷ mid
  pub told : Comes 1 mid (number (unsigned n)) new
  pub small : n < 2 ^ 32

-- of the tokens `old` a submission's session, number, version and place come first, each at its key, and `new` are the rest
pub record ReadsPlace (old : List Token) (s n v k : ℕ) (new : List Token) : Type 0 where
  pub behind_s : List Token
  pub behind_n : List Token
  pub behind_v : List Token
  pub first : ReadsField old (codes "s") s behind_s
  pub second : ReadsField behind_s (codes "n") n behind_n
  pub third : ReadsField behind_n (codes "v") v behind_v
  pub fourth : ReadsField behind_v (codes "k") k new

-- the tokens are what an object of this kind has behind its `t`, up to its end, and the whole asks for this call
pub record ReadsRest (kind : List ℕ) (all : List Token) (call : Call) : Type 0 where
  pub entries : List (List ℕ × Data)
  pub told : TellsEntries 5 all entries (end_object ∷ [])
  pub asks : call_in (object (put_entries ((codes "t", string kind) ∷ entries) no_members)) ≡ Ok call

-- the tokens are what an object has behind the key `t`, its kind first, and the whole asks for this call
pub record ReadsKind (all : List Token) (call : Call) : Type 0 where
  pub kind : List ℕ
  pub rest : List Token
  pub first : Comes 1 all (string kind) rest
  pub asks : ReadsRest kind rest call

-- the tokens are a value that asks for this call
pub record ReadsCall (all : List Token) (call : Call) : Type 0 where
  pub value : Data
  pub is : value_of_tokens all ≡ Some value
  pub asks : call_in value ≡ Ok call

-- the bytes are such a value
pub record AsksFor (bytes : List ℕ) (call : Call) : Type 0 where
  pub value : Data
  pub is : json_of bytes ≡ Ok value
  pub asks : call_in value ≡ Ok call
