-- The logs that tokens tell.
use Rattle.std.specs.Prelude.{◌≡◌, ℕ, ◌<◌, ◌^◌, Bool, List, ◌∷◌, Ok, codes}
use Rattle.json.specs.Token.{Token, key, begin_object, begin_array}
use Rattle.serde_json.specs.Data.{Data, number, unsigned}
use Rattle.opid.specs.Operations.{Operation}
use Rattle.json_bytes.specs.Internal.Coming.{value_of_tokens, TellsItems}
use Rattle.json_bytes.specs.Plain.{Comes}
use Rattle.snapshot.specs.Snapshot.{has_runs, ops_told, told_by}
use Rattle.std.specs.Prelude.{Some}

-- of the tokens `old` the number of a format comes first, and `new` are the rest
pub record ReadsFormat (old : List Token) (runs : Bool) (new : List Token) : Type 0 where
  pub n : ℕ
  pub first : Comes 1 old (number (unsigned n)) new
  pub small : n < 2 ^ 32
  pub is : has_runs n ≡ Ok runs

-- of the tokens `old` the brackets that open an object and its operations' list come first, with the format between, and `new` are the rest
pub record OpensLog (old : List Token) (runs : Bool) (new : List Token) : Type 0 where
  pub number : List Token
  pub list : List Token
  pub first : old ≡ begin_object ∷ key (codes "format") ∷ number
  pub format : ReadsFormat number runs list
  pub last : list ≡ key (codes "ops") ∷ begin_array ∷ new

-- of the tokens `old` values come first that tell this log, and `new` are the rest
pub record TellsLog (runs : Bool) (old : List Token) (log : List Operation) (new : List Token) : Type 0 where
  pub values : List Data
  pub told : TellsItems 4 old values new
  pub are : ops_told runs values ≡ Ok log

-- the tokens are a value that tells this log
pub record ReadsLog (all : List Token) (log : List Operation) : Type 0 where
  pub value : Data
  pub is : value_of_tokens all ≡ Some value
  pub tells : told_by value ≡ Ok log
