-- The numbers of the sessions rise, whatever is done to them.
use Rattle.std.proofs.Common.{◌≡◌, ℕ, ◌+◌, ◌<◌, ◌≤◌, Bool, true, false, cond, None, Some, List, [], ◌∷◌, ◌++◌, refl, ap, subst, sym, arith}
use Rattle.std.proofs.Common.{nat_eq}
use Rattle.std.proofs.lemmas.Bool.{eqb-true}
use Rattle.opid.specs.Sessions.{Session, HaveRisingNumbers, change_session, without_session, session_with}

pub from_below : (low high next : ℕ) (ws : List Session) → low ≤ high → HaveRisingNumbers high next ws → HaveRisingNumbers low next ws
from_below low high next [] le h = omega arith
from_below low high next (w ∷ ws) le h = (omega arith, h.1)

pub numbered-joined : (low next : ℕ) (ws : List Session) (w : Session) → w.number ≡ next → HaveRisingNumbers low next ws
    → HaveRisingNumbers low (next + 1) (ws ++ w ∷ [])
numbered-joined low next [] w e h = (omega arith, omega arith)
numbered-joined low next (v ∷ ws) w e h = (h.0, numbered-joined v.number next ws w e h.1)

pub numbered-without : (s low next : ℕ) (ws : List Session) → HaveRisingNumbers low next ws
    → HaveRisingNumbers low next (without_session s ws)
numbered-without s low next [] h = h
numbered-without s low next (w ∷ ws) h = by (nat_eq s w.number) (numbered-without s w.number next ws h.1)
  where
    by : (b : Bool) → HaveRisingNumbers w.number next (without_session s ws)
        → HaveRisingNumbers low next (cond b ws (w ∷ without_session s ws))
    by true r = from_below low w.number next ws (omega arith) h.1
    by false r = (h.0, r)

-- a change that keeps the numbers
pub numbered-changed : (s low next : ℕ) (f : Session → Session) (ws : List Session) → ((w : Session) → (f w).number ≡ w.number)
    → HaveRisingNumbers low next ws → HaveRisingNumbers low next (change_session s f ws)
numbered-changed s low next f [] k h = h
numbered-changed s low next f (w ∷ ws) k h = by (nat_eq s w.number) (numbered-changed s w.number next f ws k h.1)
  where
    by : (b : Bool) → HaveRisingNumbers w.number next (change_session s f ws)
        → HaveRisingNumbers low next (cond b (f w ∷ ws) (w ∷ change_session s f ws))
    by true r = (subst (λ n. low < n) (sym (k w)) h.0, subst (λ n. HaveRisingNumbers n next ws) (sym (k w)) h.1)
    by false r = (h.0, r)

-- each number is below the next one
pub low_below : (low next : ℕ) (ws : List Session) → HaveRisingNumbers low next ws → low < next
low_below low next [] h = h
low_below low next (w ∷ ws) h = let b : w.number < next = low_below w.number next ws h.1 in omega arith

-- what is put in the place of the session of this number is what its change makes of it
pub change_session-at : (s : ℕ) (f : Session → Session) (w : Session) (ws : List Session) → session_with s ws ≡ Some w
    → change_session s (λ _. f w) ws ≡ change_session s f ws
change_session-at s f w [] h = refl
change_session-at s f w (v ∷ ws) h = by (nat_eq s v.number) h (change_session-at s f w ws)
  where
    by : (b : Bool) → cond b (Some v) (session_with s ws) ≡ Some w
        → (session_with s ws ≡ Some w → change_session s (λ _. f w) ws ≡ change_session s f ws)
        → cond b (f w ∷ ws) (v ∷ change_session s (λ _. f w) ws) ≡ cond b (f v ∷ ws) (v ∷ change_session s f ws)
    by true e r = let same : v ≡ w = cc in ap (λ u. f u ∷ ws) (sym same)
    by false e r = ap (λ us. v ∷ us) (r e)

-- no session has the next number
pub next_is_new : (low next : ℕ) (ws : List Session) → HaveRisingNumbers low next ws → session_with next ws ≡ None
next_is_new low next [] h = refl
next_is_new low next (w ∷ ws) h = by (nat_eq next w.number) refl (next_is_new w.number next ws h.1)
  where
    by : (b : Bool) → nat_eq next w.number ≡ b → session_with next ws ≡ None → cond b (Some w) (session_with next ws) ≡ None
    by true i r = let same : next ≡ w.number =
        eqb-true next w.number i in let below : w.number < next = low_below w.number next ws h.1 in absurd (omega arith)
    by false i r = r
