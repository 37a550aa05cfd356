-- What holds of a room's parts.
use Rattle.std.specs.Prelude.{◌≡◌, ◌<◌, ◌≤◌, ℕ, List, length, take}
use Rattle.opid.specs.declared.limits.TheConstants.{MAX_CALLS, MAX_OPERATIONS}
use Rattle.opid.specs.Lawful.{IsLawful}
use Rattle.room_model.specs.declared.call.Call.{Call}
use Rattle.room_model.specs.Machine.{State, room_over}
use Rattle.room_model.specs.History.{state_of, mark, AreRisingFrom}

-- the state that a room was opened with, whose log is the beginning of its log of this length
abbrev pub opening_of : ℕ → State → State
opening_of opened state = room_over state.site (take opened state.log)

-- what holds of the parts that a room keeps
pub record IsRoom (opened : ℕ) (state : State) (history : List (ℕ × Call)) (next_ticket : ℕ) : Type 0 where
  -- it was opened over a beginning of its log
  pub within : opened ≤ length state.log
  -- its history leads from there to its state
  pub replays : state_of (opening_of opened state) history ≡ state
  -- its tickets strictly rise
  pub rising : AreRisingFrom 0 history
  -- the kept mark is the history's
  pub marked : next_ticket ≡ mark history
  -- its calls are counted, and are no more than are recorded
  pub counted : state.count ≡ length history
  pub limit : state.count ≤ MAX_CALLS
  -- its site is one, and its log is lawful and within its limit
  pub site : state.site < 32
  pub lawful : IsLawful state.log
  pub short : length state.log ≤ MAX_OPERATIONS
