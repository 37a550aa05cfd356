-- This moment is one of those since an earlier one, and since now it is the only one.
use Rattle.std.specs.Prelude.{ℕ, ◌≤◌, List, length}
use Rattle.std.proofs.Common.{sym, subst}
use Rattle.std.proofs.Math.Nat.{le_refl}
use Rattle.std.proofs.lemmas.List.{take_all}
use Rattle.keeper.specs.Memory.{LeftAfter, LeftSince}
use Rattle.keeper.specs.declared.memory.Call.{Call}

pub now_counts : (file : List ℕ) (calls : List Call) (t : ℕ) (c : List ℕ) → t ≤ length calls → LeftAfter file calls c
    → LeftSince file calls t c
now_counts file calls t c le now =
    let all = take_all (length calls) calls (le_refl (length calls)) in
    (length calls, le, le_refl (length calls), subst (λ (cs : List Call). LeftAfter file cs c) (sym all) now)

pub now_only : (file : List ℕ) (calls : List Call) (c : List ℕ) → LeftSince file calls (length calls) c → LeftAfter file calls c
now_only file calls c left = subst (λ (cs : List Call). LeftAfter file cs c) (take_all left.0 calls left.1) left.3
