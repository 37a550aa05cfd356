-- The operation object or run object that comes next of tokens (RFC 8259): what `rest_of_item` tells of what it has read.
use Rattle.std.specs.Prelude.{◌≡◌, ℕ, Bool, false, List, ◌∷◌, Ok}
use Rattle.json.specs.Token.{Token, begin_object}
use Rattle.serde_json.specs.Data.{Data}
use Rattle.opid.specs.Operations.{Operation}
use Rattle.operation_json.specs.Packing.{typed_behind}
use Rattle.operation_json.specs.PackedOperations.{item_ops_of}
use Rattle.operation_json.specs.Operations.{op_of}
use Rattle.json_bytes.specs.Plain.{Comes}

-- of the tokens `old`, behind the bracket that opens an object, this object comes first, and `new` are the rest: it tells the
-- operation and those of the characters behind it, and by itself the operation unless it is a run
pub record ReadsItem (old : List Token) (x : Operation) (more : List ℕ) (run : Bool) (new : List Token) : Type 0 where
  pub value : Data
  pub first : Comes 4 (begin_object ∷ old) value new
  pub ops : item_ops_of value ≡ Ok (x ∷ typed_behind x more)
  pub op : run ≡ false → op_of value ≡ Ok x
