-- Which operations one value of a snapshot's list tells by itself.
use Rattle.std.specs.Prelude.{Bool, if◌then◌else◌, Result, Ok, List, [], ◌∷◌}
use Rattle.serde_json.specs.Data.{Data}
use Rattle.opid.specs.declared.refusal.Refusal.{Refusal}
use Rattle.opid.specs.Operations.{Operation}
use Rattle.operation_json.specs.Members.{◌>>=◌}
use Rattle.operation_json.specs.Operations.{op_of}
use Rattle.operation_json.specs.PackedOperations.{item_ops_of}

-- those of an operation or of a run, or the one operation
abbrev pub value_told : Bool → Data → Result (List Operation) Refusal
value_told runs d = if runs then item_ops_of d else (op_of d >>= λ x. Ok (x ∷ []))
