-- The members of operation objects and run objects that come next of tokens.
use Rattle.std.specs.Prelude.{◌≡◌, ℕ, ◌<◌, ◌^◌, List, [], ◌∷◌, Option, Some, None, Ok, ◌+◌, ◌≤◌, length, sum, codes}
use Rattle.json.specs.Token.{Token, key, begin_array, end_array, end_object}
use Rattle.serde_json.specs.Data.{Data, number, string, unsigned}
use Rattle.opid.specs.declared.stamp.Stamp.{Stamp}
use Rattle.causal_clock.specs.Listing.{clock_told}
use Rattle.std.specs.Str.{chars}
use Rattle.opid.specs.declared.kind.OpKind.TheVariants.{Ins, Del}
use Rattle.opid.specs.declared.limits.TheConstants.{MAX_OPERATIONS}
use Rattle.opid.specs.Clocks.{entry}
use Rattle.opid.specs.Operations.{Operation}
use Rattle.operation_json.specs.PackedOperations.{run_chars}
use Rattle.operation_json.specs.Operations.{only_char, each, pair_of, stamp_told, parent_of, sited_pair, sited_stamp}
use Rattle.json_bytes.specs.Plain.{Comes}
use Rattle.json_bytes.specs.Internal.Coming.{TellsItems, TellsEntries}

-- of the tokens `old` two numbers come first and the bracket that closes their list, and `new` are the rest
abbrev pub ReadsTwo : List Token → ℕ × ℕ → List Token → Type 0
ReadsTwo old p new =
    TellsItems 1 old (number (unsigned p.0) ∷ number (unsigned p.1) ∷ []) (end_array ∷ new) × (p.0 < 2 ^ 32) × (p.1 < 2 ^ 32)

-- of the tokens `old` these pairs come first, each with a site, and `new` are the rest
pub record TellsPairs (old : List Token) (pairs : List (ℕ × ℕ)) (new : List Token) : Type 0 where
  pub values : List Data
  pub told : TellsItems 2 old values new
  pub are : each pair_of values ≡ Ok pairs
  pub sited : each sited_pair pairs ≡ Ok pairs

-- of the tokens `old` a stamp comes first that has a site, and `new` are the rest
pub record ReadsStamp (old : List Token) (s : Stamp) (new : List Token) : Type 0 where
  pub value : Data
  pub first : Comes 2 old value new
  pub is : stamp_told value ≡ Ok s
  pub sited : sited_stamp s ≡ Ok s

-- a parent's stamp has a site
abbrev pub IsSitedParent : Option Stamp → Type 0
IsSitedParent None = Unit {0}
IsSitedParent (Some s) = sited_stamp s ≡ Ok s

-- of the tokens `old` a parent comes first whose stamp has a site, and `new` are the rest
pub record ReadsParent (old : List Token) (p : Option Stamp) (new : List Token) : Type 0 where
  pub value : Data
  pub first : Comes 2 old value new
  pub is : parent_of value ≡ Ok p
  pub sited : IsSitedParent p

-- of the tokens `old` a key comes first and the pairs of this clock, and `new` are the rest
pub record ReadsClock (old : List Token) (clock : List ℕ) (new : List Token) : Type 0 where
  pub rest : List Token
  pub opened : old ≡ key (codes "c") ∷ begin_array ∷ rest
  pub pairs : List (ℕ × ℕ)
  pub told : TellsPairs rest pairs (end_array ∷ new)
  pub is : clock_told pairs ≡ Ok clock

-- of the tokens `old` what an insertion or a run has behind its letter comes first, and `new` are the rest
pub record ReadsTyped (old : List Token) (p : Option Stamp) (s : ℕ) (x : List ℕ) (new : List Token) : Type 0 where
  pub value : Data
  pub told : TellsEntries 3 old ((codes "p", value) ∷ (codes "s", number (unsigned s)) ∷ (codes "x", string x) ∷ []) (end_object ∷ new)
  pub is : parent_of value ≡ Ok p
  pub sited : IsSitedParent p
  pub site : s < 32

-- of the tokens `old` what a deletion has behind its letter comes first, and `new` are the rest
pub record ReadsDeleted (old : List Token) (s : ℕ) (t : Stamp) (new : List Token) : Type 0 where
  pub value : Data
  pub told : TellsEntries 3 old ((codes "s", number (unsigned s)) ∷ (codes "t", value) ∷ []) (end_object ∷ new)
  pub is : stamp_told value ≡ Ok t
  pub sited : sited_stamp t ≡ Ok t
  pub site : s < 32

-- of the tokens `old` this insertion comes first, from behind its letter on, and `new` are the rest
pub record ReadsInsertion (old : List Token) (x : Operation) (new : List Token) : Type 0 where
  pub parent : Option Stamp
  pub text : List ℕ
  pub ch : ℕ
  pub told : ReadsTyped old parent x.site text new
  pub one : only_char text ≡ Some ch
  pub kind : x.kind ≡ Ins parent ch
  pub counted : 0 < entry x.clock x.site
  pub few : sum x.clock ≤ MAX_OPERATIONS

-- of the tokens `old` this run comes first, from behind its letter on, and `new` are the rest
pub record ReadsRun (old : List Token) (x : Operation) (more : List ℕ) (new : List Token) : Type 0 where
  pub parent : Option Stamp
  pub text : List ℕ
  pub ch : ℕ
  pub told : ReadsTyped old parent x.site text new
  pub all : run_chars (chars text) ≡ Ok (ch, more)
  pub kind : x.kind ≡ Ins parent ch
  pub counted : 0 < entry x.clock x.site
  pub few : sum x.clock + length more ≤ MAX_OPERATIONS

-- of the tokens `old` this deletion comes first, from behind its letter on, and `new` are the rest
pub record ReadsDeletion (old : List Token) (x : Operation) (new : List Token) : Type 0 where
  pub target : Stamp
  pub told : ReadsDeleted old x.site target new
  pub kind : x.kind ≡ Del target
  pub counted : 0 < entry x.clock x.site
  pub few : sum x.clock ≤ MAX_OPERATIONS
