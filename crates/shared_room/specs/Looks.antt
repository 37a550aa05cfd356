-- What a look at a shared room shows, and what it does to what its pass knows. The rules are the server's own.
use Rattle.std.specs.Prelude.{◌≡◌, ◌↔◌, ◌⊎◌, ℕ, List, length, drop, Result, Err, IfOk, IfErr}
use Rattle.opid.specs.declared.refusal.Refusal.{Refusal}
use Rattle.opid.specs.declared.refusal.Refusal.TheVariants.{Worn, Memory}
use Rattle.room_model.specs.declared.call.Call.{Call}
use Rattle.room_model.specs.Machine.{State}
use Rattle.room_model.specs.History.{state_of}
use Rattle.shared_room.specs.declared.look.Look.{Look}
use Rattle.shared_room.specs.Views.{View}
use Rattle.shared_room.specs.Turns.{Visits}

-- a look shows the room that was opened so, after these calls
pub record ShowsRoom (opening : State) (found : List (ℕ × Call)) (after : ℕ) (look : Look) : Type 0 where
  -- the operations of its log behind the first so many
  pub ops : look.ops ≡ drop after (state_of opening found).log
  -- how many calls it has recorded
  pub calls : look.calls ≡ length found
  -- how many operations its log has
  pub version : look.version ≡ length (state_of opening found).log
  -- how many sessions it has
  pub sessions : look.sessions ≡ length (state_of opening found).outbox.sessions

-- a look through a pass gave this
pub record LooksAt (opening : State) (v w : View) (after : ℕ) (result : Result Look Refusal) : Type 0 where
  -- what a turn found that recorded nothing
  pub told : IfOk result (λ look. Visits v w × ShowsRoom opening w.found after look)
  pub cause : IfErr result (λ e. (e ≡ Worn) ⊎ (e ≡ Memory))
  -- no draw was left, and nothing has changed
  pub worn : (result ≡ Err Worn) ↔ (v.left ≡ 0)
  pub worn_same : (result ≡ Err Worn) → w ≡ v
  -- there was no memory for what was found, at a turn that recorded nothing
  pub memory : (result ≡ Err Memory) → Visits v w
