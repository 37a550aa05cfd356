-- What a pass knows of the turns of its lock: which trail was left for each. The lock and this account of it are the server's own.
use Rattle.std.specs.Prelude.{◌≡◌, ℕ, ◌+◌, ◌<◌, ◌≤◌, List, ◌∷◌, length, Some, slice_get}
use mathlib.Core.List.{IsPrefix}
use Rattle.history_lock.specs.declared.pass.Sight.{Sight}

module _ {E : Type 0} where
  -- how long the trail was as each turn began, as far as the pass knows: at the opening, and then at the end of each finished turn
  abbrev pub starts_of : Sight E → List ℕ
  starts_of v = v.opening ∷ v.ends

  -- the trail that turn n begins with, as the pass knows: for turn 0 the one that the lock was opened with, for any other the
  -- one that the turn before it left
  pub record LeftFor (v : Sight E) (n : ℕ) (trail : List E) : Type 0 where
    -- it is as long as the trail was then
    pub long : slice_get (starts_of v) n ≡ Some (length trail)
    -- and the trail, which only grows, begins with it
    pub begins : IsPrefix trail v.seen

  -- what w knows contains what v knows
  pub record Grows (v w : Sight E) : Type 0 where
    pub opening : w.opening ≡ v.opening
    pub account : IsPrefix v.ends w.ends
    pub seen : IsPrefix v.seen w.seen

  -- its last turn is finished: it found just what was left for it, and left the same for the next
  pub record TookTurn (w : Sight E) : Type 0 where
    pub turn : LeftFor w w.drawn w.found
    pub next : LeftFor w (w.drawn + 1) w.found
    -- the turn is the last one that it knows of
    pub last : length w.ends ≡ w.drawn + 1

  -- both took such a turn, the first before the second. The first knows then what either knew, and the second knows what the first does
  pub record TookTurns (a b a' b' : Sight E) : Type 0 where
    pub first : TookTurn a'
    pub second : TookTurn b'
    pub order : a'.drawn < b'.drawn
    -- both are later than all turns that either knew of
    pub later : (length a.ends ≤ a'.drawn) × (length b.ends ≤ a'.drawn)
    pub grows : Grows a a' × Grows b a' × Grows a' b'
