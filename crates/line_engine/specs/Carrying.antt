-- What carrying operations from a desk to a desk does, by their steps alone. The rules are the server's own.
use Rattle.std.specs.Prelude.{◌≡◌, ℕ, ◌+◌, List, [], ◌∷◌, length, Bool, true, false, not, take_while, Result, Ok, Err}
use Rattle.opid.specs.declared.refusal.Refusal.TheVariants.{Full, HoldFull}
use Rattle.opid.specs.Operations.{Operation}
use Rattle.room_model.specs.declared.call.Call.{Call}
use Rattle.room_model.specs.declared.call.Call.TheVariants as calls
use Rattle.room_model.specs.declared.reply.Reply.{Reply}
use Rattle.room_model.specs.declared.reply.Reply.TheVariants as replies
use Rattle.room_model.specs.declared.outcome.Outcome.{Outcome}
use Rattle.room_model.specs.declared.outcome.Outcome.TheVariants as outcomes
use Rattle.room_model.specs.declared.desk_fault.DeskFault.{DeskFault}

-- whether an operation is to be handed over again: its log or its held list was full
abbrev pub is_refused_as_full : Outcome → Bool
is_refused_as_full (outcomes.No Full) = true
is_refused_as_full (outcomes.No HoldFull) = true
is_refused_as_full _ = false

-- how many outcomes there are before the first that was refused as full
abbrev pub carried : List Outcome → ℕ
carried told = length (take_while (λ o. not (is_refused_as_full o)) told)

-- the operations that a reply tells
abbrev pub told_ops : Reply → List Operation
told_ops (replies.Ops from ops) = ops
told_ops _ = []

-- how many operations a reply says were taken
abbrev pub told_carried : Reply → ℕ
told_carried (replies.Put told) = carried told
told_carried _ = 0

-- a call was answered, or the desk told its fault
abbrev pub Calls : {S : Type 0} → (S → Call → Reply → S → Type 0) → (S → Call → DeskFault → S → Type 0) → S → Call → Result Reply DeskFault
    → S → Type 0
Calls step fault old call (Ok reply) new = step old call reply new
Calls step fault old call (Err why) new = fault old call why new

-- where the put was answered, the number is after those that were taken
abbrev pub number_after : ℕ → Result Reply DeskFault → Result ℕ DeskFault
number_after after (Ok reply) = Ok (after + told_carried reply)
number_after after (Err why) = Err why

-- the operations were put in one call, or there were none, and no call was made
abbrev pub Hands : {S : Type 0} → (S → Call → Reply → S → Type 0) → (S → Call → DeskFault → S → Type 0) → S → ℕ → List Operation
    → Result ℕ DeskFault → S → Type 0
Hands step fault old after [] result new = (result ≡ Ok after) × (new ≡ old)
Hands step fault old after (op ∷ ops) result new =
    (answered : Result Reply DeskFault) × Calls step fault old (calls.Put (op ∷ ops)) answered new × (result ≡ number_after after answered)

-- the operations that the first desk told were handed over; or it told its fault, which is the result
abbrev pub HandsTold : {S : Type 0} → (S → Call → Reply → S → Type 0) → (S → Call → DeskFault → S → Type 0) → S → ℕ → Result Reply DeskFault
    → Result ℕ DeskFault → S → Type 0
HandsTold step fault old after (Ok reply) result new = Hands step fault old after (told_ops reply) result new
HandsTold step fault old after (Err why) result new = (result ≡ Err why) × (new ≡ old)
