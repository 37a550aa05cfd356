-- Operations that stand in slots, in an order beside them.
use Rattle.std.specs.Prelude.{ℕ, ◌==◌, ◌<◌, List, [], map, take, get_or}
use Rattle.std.specs.List.{All, IsDistinct}
use Rattle.opid.specs.declared.kind.OpKind.TheVariants.{Del}
use Rattle.opid.specs.Operations.{Operation}

-- an operation for slots past the end
abbrev pub in_no_slot : Operation
in_no_slot = record { site = 0; clock = []; kind = Del (record { sum = 0; site = 0 }) }

-- the operations of the first slots of an order
abbrev pub arranged : List Operation → List ℕ → ℕ → List Operation
arranged slots order count = map (λ s. get_or slots s in_no_slot) (take count order)

-- each is a slot, and none stands there twice
abbrev pub AreSlots : ℕ → List ℕ → Type 0
AreSlots count order = All (λ s. s < count) order × IsDistinct (λ s t. s == t) order
