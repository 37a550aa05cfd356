-- That recorded calls hand over operations can hold in one way alone.
use Rattle.std.specs.Prelude.{ℕ, List}
use Rattle.std.specs.List.{AllByRecursion, AllByRecursion-prop}
use Rattle.std.specs.Coded.{Unit-prop}
use Rattle.std.proofs.Props.{props}
use Rattle.opid.specs.Operations.{Operation}
use Rattle.opid.specs.Kinds.{IsOperation}
use Rattle.room_model.specs.declared.call.Call.{Call}
use Rattle.room_model.specs.declared.call.Call.TheVariants.{Put}
use Rattle.room_model.specs.History.{HandsOperations}

-- there is one proof that something is an operation
IsOperation-prop : (x : Operation) → IsProp (IsOperation x)
IsOperation-prop x = Prim.hlevel props

-- there is one proof that a call hands over operations
HandsOperations-prop : (c : Call) → IsProp (HandsOperations c)
HandsOperations-prop (Put ops) = AllByRecursion-prop IsOperation IsOperation-prop ops
HandsOperations-prop other = Unit-prop

-- there is one proof that the calls of a history do
pub AllHand-prop : (h : List (ℕ × Call)) → IsProp (AllByRecursion (λ e. HandsOperations e.1) h)
AllHand-prop h = AllByRecursion-prop (λ e. HandsOperations e.1) (λ e. HandsOperations-prop e.1) h
