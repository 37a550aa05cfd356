-- What calls leave in a file in memory, and what a crash may leave of it: the server's own model of a disk, on which an append may be torn,
-- and nothing is sure before the next sync.
use Rattle.std.specs.Prelude.{◌≡◌, ◌⊎◌, ℕ, ◌≤◌, ◌<◌, ◌+◌, ◌^◌, List, [], ◌∷◌, ◌++◌, length, take, replicate, Vec}
use Rattle.std.specs.declared.alloc.Global.{Global}
use Rattle.keeper.specs.Disk.{IsTorn}
use Rattle.keeper.specs.declared.memory.MemoryFile.{MemoryFile}
use Rattle.keeper.specs.declared.memory.Call.{Call}
use Rattle.keeper.specs.declared.memory.Call.TheVariants.{Append, Cut, Sync}

-- the file after a call
abbrev pub seen_next : List ℕ → Call → List ℕ
seen_next file (Append more) = file ++ more.items
seen_next file (Cut size) = take size file
seen_next file Sync = file

-- the file after calls
abbrev pub seen_after : List ℕ → List Call → List ℕ
seen_after file [] = file
seen_after file (call ∷ calls) = seen_after (seen_next file call) calls

-- what else a crash may leave after a call of which it may leave this before: a torn append, or what was cut; nothing after a sync
abbrev pub UndoneNext : List ℕ → (List ℕ → Type 0) → Call → List ℕ → Type 0
UndoneNext file before (Append more) c = before c ⊎ IsTorn file more.items c
UndoneNext file before (Cut size) c = before c ⊎ (c ≡ file)
UndoneNext file before Sync c = ⊥

-- the same after calls
abbrev pub UndoneAfter : List ℕ → (List ℕ → Type 0) → List Call → List ℕ → Type 0
UndoneAfter file before [] = before
UndoneAfter file before (call ∷ calls) = UndoneAfter (seen_next file call) (UndoneNext file before call) calls

-- a crash after calls may leave this of a file that was on the disk
abbrev pub LeftAfter : List ℕ → List Call → List ℕ → Type 0
LeftAfter file calls c = (c ≡ seen_after file calls) ⊎ UndoneAfter file (λ d. ⊥) calls c

-- a crash may have left this, after so many of the calls or more
abbrev pub LeftSince : List ℕ → List Call → ℕ → List ℕ → Type 0
LeftSince file calls t c = (k : ℕ) × (t ≤ k) × (k ≤ length calls) × LeftAfter file (take k calls) c

-- the bytes of a file in memory
abbrev pub memory_bytes : MemoryFile → List ℕ
memory_bytes m = seen_after m.first.items m.calls.items

-- what a crash at this moment may leave of it
abbrev pub MemoryLeft : MemoryFile → List ℕ → Type 0
MemoryLeft m c = LeftAfter m.first.items m.calls.items c

-- of an append that was the last call so many bytes are left, and then so many zeros
abbrev pub TearsLast : MemoryFile → ℕ → ℕ → List ℕ → Type 0
TearsLast m size zeros c = (before : List Call) (more : Vec ℕ Global) → m.calls.items ≡ before ++ Append more ∷ []
    → length (seen_after m.first.items before) + length more.items + zeros < 2 ^ 64
    → c ≡ seen_after m.first.items before ++ (take size more.items ++ replicate zeros 0)

-- where the last call was no append, all is left
abbrev pub LeavesAll : MemoryFile → List ℕ → Type 0
LeavesAll m c = ((before : List Call) (more : Vec ℕ Global) → m.calls.items ≡ before ++ Append more ∷ [] → ⊥) → c ≡ memory_bytes m
