-- The parts of a log that tokens tell.
use Rattle.std.specs.Prelude.{◌≡◌, ℕ, List, [], ◌∷◌, Ok, Some, codes}
use Rattle.json.specs.Token.{Token, begin_object, end_object, key}
use Rattle.serde_json.specs.Data.{Data, string}
use Rattle.opid.specs.Operations.{Operation}
use Rattle.json_bytes.specs.Internal.Coming.{value_of_tokens}
use Rattle.json_bytes.specs.Plain.{Comes}
use Rattle.operation_json.specs.Members.{json_of}
use Rattle.wire_json.specs.Part.{part_in, part_at}
use Rattle.wire_json.specs.Internal.CallTokens.{ReadsField}

-- of the tokens `old` the bracket that opens an object and its first operation's number come first, and `new` are the rest
pub record OpensPart (old : List Token) (n : ℕ) (new : List Token) : Type 0 where
  pub mid : List Token
  pub first : old ≡ begin_object ∷ mid
  pub field : ReadsField mid (codes "from") n new

-- the tokens are the rest of a part's object behind its operations
pub record ClosesPart (old : List Token) : Type 0 where
  pub mid : List Token
  pub new : List Token
  pub first : old ≡ key (codes "r") ∷ mid
  pub told : Comes 1 mid (string (codes "ops")) new
  pub last : new ≡ end_object ∷ []

-- the tokens are a value that tells this part, unless its operations are too many
pub record ReadsPart (all : List Token) (n : ℕ) (ops : List Operation) : Type 0 where
  pub value : Data
  pub is : value_of_tokens all ≡ Some value
  pub tells : part_in value ≡ part_at n ops

-- the bytes are such a value
pub record TellsPart (bytes : List ℕ) (n : ℕ) (ops : List Operation) : Type 0 where
  pub value : Data
  pub is : json_of bytes ≡ Ok value
  pub tells : part_in value ≡ part_at n ops
