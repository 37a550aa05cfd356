-- What one round does, and that rounds which change nothing are the last.
use Rattle.std.proofs.Common.{◌≡◌, ℕ, zero, suc, ◌+◌, ◌-◌, ◌<◌, ◌≤◌, Option, Some, None, length, refl, ap, ◌∙◌, sym, arith}
use Rattle.std.proofs.lemmas.Bool.{cond-true, cond-false, le-leb, lt-leb}
use Rattle.opid.specs.declared.refusal.Refusal.{Refusal}
use Rattle.opid.specs.Operations.{Operation}
use Rattle.opid.specs.Delivery.{clock_of}
use Rattle.opid.specs.Held.{first_ready}
use Rattle.opid.specs.Delivered.{refusal_of}
use Rattle.opid.specs.Delivered.{Settling, appended_or_dropped, taken_out, round_with, round, rounds}

-- nothing changes where the log is full, or nothing is ready
pub round-full : (s : Settling) → 131072 ≤ length s.log → round s ≡ s
round-full s l = cond-true _ _ _ (le-leb 131072 (length s.log) l)

pub round-none : (s : Settling) → length s.log < 131072 → first_ready (clock_of s.log) s.held ≡ None → round s ≡ s
round-none s l e = cond-false _ _ _ (lt-leb 131072 (length s.log) l) ∙ ap (λ o. round_with o s) e

-- the first that is ready is appended, or dropped
pub round-some : (s : Settling) (x : Operation) (r : Option Refusal) → length s.log < 131072 → first_ready (clock_of s.log) s.held ≡ Some x
    → refusal_of s.log x ≡ r
    → round s ≡ appended_or_dropped r x (taken_out s)
round-some s x r l e f = cond-false _ _ _ (lt-leb 131072 (length s.log) l) ∙ ap (λ o. round_with o s) e
    ∙ ap (λ o. appended_or_dropped o x (taken_out s)) f

-- rounds that change nothing
pub rounds-stay : (n : ℕ) (s : Settling) → round s ≡ s → rounds n s ≡ s
rounds-stay zero s e = refl
rounds-stay (suc n) s e = ap (rounds n) e ∙ rounds-stay n s e

-- one round of those left
pub rounds-step : (n i : ℕ) (s t : Settling) → i < n → t ≡ round s → rounds (n - i) s ≡ rounds (n - (i + 1)) t
rounds-step n i s t l e =
    let more : n - i ≡ suc (n - (i + 1)) = omega arith in
    ap (λ k. rounds k s) more ∙ ap (rounds (n - (i + 1))) (sym e)
