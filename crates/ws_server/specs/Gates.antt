-- The gate before a connection's calls, and the count of its calls. What is told before a call is told with the desk as it is then,
-- which a call changes. The rules are the server's own.
use Rattle.std.specs.Prelude.{◌≡◌, ℕ, ◌+◌, ◌-◌, ◌^◌, min, Option, None, Some}
use Rattle.room_model.specs.declared.call.Call.{Call}
use Rattle.room_model.specs.declared.reply.Reply.{Reply}
use Rattle.room_model.specs.declared.desk_fault.DeskFault.{DeskFault}

-- the number of a connection's call after so many, counted from 1; it stays at 2^64 - 1 once it is there
abbrev pub next_call : ℕ → ℕ
next_call calls = min (calls + 1) (2 ^ 64 - 1)

-- A desk with a gate before it.
pub record Gated (S G : Type 0) : Type 0 where
  pub desk : S
  -- how many calls the connection has made
  pub calls : ℕ
  pub gate : G
  -- the number of the call that the message at hand made, if it made one
  pub made : Option ℕ

-- a call takes the next number, which the gate is told while the desk is as it was before the call
abbrev pub TakesNumber : {S G : Type 0} → (G → ℕ → S → G → Type 0) → Gated S G → Gated S G → Type 0
TakesNumber told_before old new =
    (new.calls ≡ next_call old.calls) × (new.made ≡ Some new.calls) × told_before old.gate new.calls old.desk new.gate

-- a desk's step behind the gate
abbrev pub gated_step : {S G : Type 0} → (G → ℕ → S → G → Type 0) → (S → Call → Reply → S → Type 0) → Gated S G → Call → Reply → Gated S G
    → Type 0
gated_step told_before step old call reply new = TakesNumber told_before old new × step old.desk call reply new.desk

-- a desk's fault behind the gate
abbrev pub gated_fault : {S G : Type 0} → (G → ℕ → S → G → Type 0) → (S → Call → DeskFault → S → Type 0) → Gated S G → Call → DeskFault
    → Gated S G → Type 0
gated_fault told_before fault old call why new = TakesNumber told_before old new × fault old.desk call why new.desk

-- the gate is told of a message's call, if it made one, after its answer was sent
abbrev pub TellsAfter : {G : Type 0} → (G → ℕ → G → Type 0) → Option ℕ → G → G → Type 0
TellsAfter told_after None old new = new ≡ old
TellsAfter told_after (Some n) old new = told_after old n new
