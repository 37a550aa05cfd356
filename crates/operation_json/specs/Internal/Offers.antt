-- What an operation that is offered tells.
use Rattle.std.specs.Prelude.{ℕ, option_map, List, map}
use Rattle.std.specs.Result.{result_unwrap_or}
use Rattle.serde_json.specs.declared.value.Value.{Value}
use Rattle.serde_json.specs.Data.{Data}
use Rattle.serde_json.specs.View.{view}
use Rattle.opid.specs.declared.stamp.Stamp.{Stamp}
use Rattle.opid.specs.declared.kind.OpKind.{OpKind}
use Rattle.opid.specs.declared.kind.OpKind.TheVariants as kinds
use Rattle.operation_json.specs.Operations.{pair_of}
use Rattle.operation_json.specs.declared.read.offer.OfferedKind.{OfferedKind}
use Rattle.operation_json.specs.declared.read.offer.OfferedKind.TheVariants.{Ins, Del}

-- a sum and a site as a stamp
abbrev pub stamp_with : ℕ × ℕ → Stamp
stamp_with p = record { sum = p.0; site = p.1 }

-- what an offered kind does
abbrev pub offered_kind : OfferedKind → OpKind
offered_kind (Ins parent ch) = kinds.Ins (option_map stamp_with parent) ch
offered_kind (Del target) = kinds.Del (stamp_with target)

-- the pair that a value is, or zeros
abbrev pub pair_in : Data → ℕ × ℕ
pair_in d = result_unwrap_or (pair_of d) (0, 0)

-- the pairs that values are, or zeros
abbrev pub pairs_in : List Value → List (ℕ × ℕ)
pairs_in values = map (λ v. pair_in (view v)) values
