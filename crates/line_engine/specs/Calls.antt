-- Calls of a reader or of a writer, one after another, and how many failed. What a call may do is the reader's or the writer's own; the
-- count is the server's own.
use Rattle.std.specs.Prelude.{◌≡◌, ◌<◌, ◌≤◌, ◌⊎◌, ℕ, zero, suc, ◌+◌, ◌-◌, ◌^◌, List, [], ◌∷◌, length, Result, Ok, Err}

-- from one state to another by calls with these results
abbrev pub Makes : {S E : Type 0} → (S → Result ℕ E → S → Type 0) → S → List (Result ℕ E) → S → Type 0
Makes calls old [] new = new ≡ old
Makes {S} calls old (r ∷ rs) new = (mid : S) × calls old r mid × Makes calls mid rs new

-- a read that was asked for at least 65,536 bytes
abbrev pub for_a_block : {S E : Type 0} → (S → ℕ → Result ℕ E → S → Type 0) → S → Result ℕ E → S → Type 0
for_a_block reads old result new = (most : ℕ) × (65536 ≤ most) × reads old most result new

-- a write that was asked to take some bytes
abbrev pub of_bytes : {S E : Type 0} → (S → ℕ → Result ℕ E → S → Type 0) → S → Result ℕ E → S → Type 0
of_bytes writes old result new = (most : ℕ) × (0 < most) × writes old most result new

-- how many of these reads failed
abbrev pub failed_reads : {E : Type 0} → List (Result ℕ E) → ℕ
failed_reads [] = 0
failed_reads (Ok n ∷ rs) = failed_reads rs
failed_reads (Err e ∷ rs) = 1 + failed_reads rs

-- how many of these writes failed, or took no byte
abbrev pub failed_writes : {E : Type 0} → List (Result ℕ E) → ℕ
failed_writes [] = 0
failed_writes (Ok zero ∷ rs) = 1 + failed_writes rs
failed_writes (Ok (suc n) ∷ rs) = failed_writes rs
failed_writes (Err e ∷ rs) = 1 + failed_writes rs

-- Calls lead from one state of a reader to another; the number of calls rises by how many these are, and the number of failures
-- by how many of them failed. A read past 2^64 - 1 is no call, and raises the number of failures by one.
pub record CountsReads {S E : Type 0} (reads : S → Result ℕ E → S → Type 0) (old : S) (calls failures : ℕ) (new : S)
    (calls' failures' : ℕ) : Type 0 where
  pub results : List (Result ℕ E)
  pub made : Makes reads old results new
  pub called : calls' ≡ calls + length results
  pub counted : (failures' ≡ failures + failed_reads results) ⊎ ((calls' ≡ 2 ^ 64 - 1) × (failures' ≡ failures + failed_reads results + 1))

-- calls lead from one state of a writer to another, and the number of failures rises by how many of them failed or took no byte
pub record CountsWrites {S E : Type 0} (writes : S → Result ℕ E → S → Type 0) (old : S) (failures : ℕ) (new : S)
    (failures' : ℕ) : Type 0 where
  pub results : List (Result ℕ E)
  pub made : Makes writes old results new
  pub counted : failures' ≡ failures + failed_writes results
