-- What is held back until its causal past is there: when two operations are one and the same, what becomes of one that is offered, and
-- which is taken out next (Roh, Jeon, Kim and Lee 2011; causal delivery).
use Rattle.std.specs.Prelude.{ℕ, Bool, true, false, ◌==◌, ◌&&◌, List, [], ◌∷◌, if◌then◌else◌, Option, find, ◌≡◌, ◌++◌, nat_lt, Some}
use Rattle.std.specs.Prelude.{None, Result, Ok, Err, length}
use Rattle.std.specs.List.{AllByRecursion}
use Rattle.opid.specs.declared.kind.OpKind.{OpKind}
use Rattle.opid.specs.declared.kind.OpKind.TheVariants.{Ins, Del}
use Rattle.opid.specs.declared.limits.TheConstants.{MAX_HELD}
use Rattle.opid.specs.declared.refusal.Refusal.{Refusal}
use Rattle.opid.specs.declared.refusal.Refusal.TheVariants.{Conflict, HoldFull}
use Rattle.opid.specs.declared.arrival.Arrival.{Arrival}
use Rattle.opid.specs.declared.arrival.Arrival.TheVariants.{Kept, Again}
use Rattle.opid.specs.Stamps.{is_same, is_same_parent}
use Rattle.opid.specs.Operations.{Operation, number_of}
use Rattle.opid.specs.Clocks.{is_next}

-- the same counts, one by one
abbrev pub is_same_clock : List ℕ → List ℕ → Bool
is_same_clock [] [] = true
is_same_clock [] (b ∷ bs) = false
is_same_clock (a ∷ more) [] = false
is_same_clock (a ∷ more) (b ∷ bs) = a == b && is_same_clock more bs

-- the same insertion, or the same deletion
abbrev pub is_same_kind : OpKind → OpKind → Bool
is_same_kind (Ins p a) (Ins q b) = is_same_parent p q && a == b
is_same_kind (Ins p a) (Del t) = false
is_same_kind (Del s) (Ins q b) = false
is_same_kind (Del s) (Del t) = is_same s t

-- the same operation
abbrev pub is_same_operation : Operation → Operation → Bool
is_same_operation x y = x.site == y.site && is_same_clock x.clock y.clock && is_same_kind x.kind y.kind

-- the first that is ready where just the operations are that the clock counts
abbrev pub first_ready : List ℕ → List Operation → Option Operation
first_ready clock held = find (λ x. is_next x.site x.clock clock) held

-- the others, in their order
abbrev pub without_first_ready : List ℕ → List Operation → List Operation
without_first_ready clock [] = []
without_first_ready clock (x ∷ held) = if is_next x.site x.clock clock then held else x ∷ without_first_ready clock held

-- none of the operations is ready where just the operations are that the clock counts
abbrev pub NoneReady : List ℕ → List Operation → Type 0
NoneReady clock ops = AllByRecursion (λ y. is_next y.site y.clock clock ≡ false) ops

-- x is the first of the held operations that is ready, and these are the others
pub record IsFirstReady (clock : List ℕ) (held : List Operation) (x : Operation) (others : List Operation) : Type 0 where
  pub before : List Operation
  pub after : List Operation
  pub held_is : held ≡ before ++ x ∷ after
  pub passed : NoneReady clock before
  pub ready : is_next x.site x.clock clock ≡ true
  pub others_are : others ≡ before ++ after

-- the operations that are held back, in order of arrival, and for how many there is memory, these included
pub record HeldOperations : Type 0 where
  pub ops : List Operation
  pub reserved : ℕ

-- the same site, and the same number there
abbrev pub is_same_number : ℕ × ℕ → ℕ × ℕ → Bool
is_same_number m n = m.0 == n.0 && m.1 == n.1

-- the first of the operations that has the number
abbrev pub with_number : ℕ × ℕ → List Operation → Option Operation
with_number n ops = find (λ y. is_same_number n (number_of y)) ops

-- whether x is the operation that has its number: where another one has it, that is a conflict
abbrev pub compared : Operation → Option Operation → Result Bool Refusal
compared x None = Ok false
compared x (Some y) = if is_same_operation x y then Ok true else Err Conflict

-- whether x is among the operations
abbrev pub look_for : Operation → List Operation → Result Bool Refusal
look_for x ops = compared x (with_number (number_of x) ops)

-- what is held already comes again; what is new is kept, unless 1,024 are held
abbrev pub arrival_of : Result Bool Refusal → ℕ → Result Arrival Refusal
arrival_of (Err e) count = Err e
arrival_of (Ok true) count = Ok Again
arrival_of (Ok false) count = if nat_lt count MAX_HELD then Ok Kept else Err HoldFull

-- what becomes of an operation that is not ready, beside those that are held
abbrev pub offered : Operation → List Operation → Result Arrival Refusal
offered x held = arrival_of (look_for x held) (length held)

-- what is held after an arrival
abbrev pub after_arrival : Arrival → Operation → List Operation → List Operation
after_arrival Kept x held = held ++ x ∷ []
after_arrival Again x held = held
