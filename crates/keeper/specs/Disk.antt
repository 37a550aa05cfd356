-- What the calls of a disk do to its file, and what a crash may do between two syncs: the server's own words for what it expects of one.
use Rattle.std.specs.Prelude.{◌≡◌, ◌≢◌, ◌⊎◌, ℕ, ◌<◌, ◌≤◌, List, ◌++◌, take, Result, IfErr}
use Rattle.std.specs.IoError.{error_kind}
use Rattle.std.specs.declared.io.Error.{Error}
use Rattle.std.specs.declared.io.ErrorKind.TheVariants.{OutOfMemory}
use Rattle.wire_json.specs.Line.{IsLine}

-- a crash leaves this and nothing else
abbrev pub Only : List ℕ → (List ℕ → Type 0) → Type 0
Only file outcomes = (c : List ℕ) → outcomes c → c ≡ file

-- the first n bytes of the file are on the disk: each crash leaves them
abbrev pub IsHeld : ℕ → List ℕ → (List ℕ → Type 0) → Type 0
IsHeld n file outcomes = (c : List ℕ) → outcomes c → take n c ≡ take n file

-- each new outcome of a crash is an old outcome after a step
abbrev pub Follows : (List ℕ → List ℕ → Type 0) → (List ℕ → Type 0) → (List ℕ → Type 0) → Type 0
Follows step old new = (c : List ℕ) → new c → (d : List ℕ) × old d × step d c

-- after a cut to n bytes: no more than n are sure, and there are no others
pub record IsCut (n : ℕ) (old new : List ℕ) : Type 0 where
  pub size : ℕ
  pub no_shorter : n ≤ size
  pub front : new ≡ take size old

-- after bytes were appended to the file: a beginning of them, and behind it bytes of which none is LF (as the zeros of a file that was
-- made longer before it was written)
pub record IsTorn (file bytes new : List ℕ) : Type 0 where
  pub size : ℕ
  pub last : List ℕ
  pub plain : IsLine last
  pub is : new ≡ file ++ (take size bytes ++ last)

-- Time goes on: a crash since t might have left what it might have left before, or what it may leave now.
pub record Elapses (before now : ℕ) (past since : ℕ → List ℕ → Type 0) (may_leave : List ℕ → Type 0) : Type 0 where
  pub later : before ≤ now
  pub nothing_else : (t : ℕ) (c : List ℕ) → t ≤ before → since t c → past t c ⊎ may_leave c
  pub keeps : (t : ℕ) (c : List ℕ) → t ≤ before → past t c → since t c

-- A crash at any moment since old leaves a file that has P.
pub record LeavesOnly {D : Type 0} (moment : D → ℕ) (left_since : D → ℕ → List ℕ → Type 0) (old new : D)
    (P : List ℕ → Type 0) : Type 0 where
  pub later : moment old ≤ moment new
  pub each : (c : List ℕ) → left_since new (moment old) c → P c
  -- for a run that began earlier
  pub before : (t : ℕ) (c : List ℕ) → t ≤ moment old → left_since new t c → left_since old t c ⊎ P c

-- A call failed only where the disk has failed since, or where memory was refused.
pub record HasCause {T : Type 0} (before now : ℕ) (result : Result T Error) : Type 0 where
  pub later : before ≤ now
  pub failed : IfErr result (λ e. error_kind e ≢ OutOfMemory → before < now)
