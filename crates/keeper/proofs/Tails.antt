-- What stands behind the last whole line.
use Rattle.std.proofs.Common.{◌≡◌, ◌⊎◌, ℕ, ◌+◌, ◌<◌, ◌≤◌, List, [], length, drop, subst}
use Rattle.journal.specs.Journal.{EndsLines}
use Rattle.keeper.specs.Tail.{IsCutShort, IsNoLine}

pub cut_short : (n : ℕ) (tail file seen : List ℕ) → file ≡ seen → EndsLines n file → tail ≡ drop n file
    → (tail ≡ []) ⊎ ((0 < n) × (length tail ≤ 65536)) → IsCutShort n tail seen
cut_short n tail file seen same ends is short =
    subst (λ (f : List ℕ). IsCutShort n tail f) same (record { ends = ends; is = is; short = short })

pub no_line : (front n : ℕ) (file seen : List ℕ) → file ≡ seen → EndsLines front file → front + n ≡ length file → 0 < n
    → (front ≡ 0) ⊎ (65536 < n) → IsNoLine n seen
no_line front n file seen same ends size some why =
    subst (λ (f : List ℕ). IsNoLine n f) same (record { front = front; ends = ends; size = size; some = some; no_line = why })
