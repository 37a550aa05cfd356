-- What a function answers whose result is seen as another value, or that may find no memory (the server's own).
use Rattle.std.specs.Prelude.{◌≡◌, ◌⊎◌, Result, Ok, Err}
use Rattle.opid.specs.declared.refusal.Refusal.{Refusal}
use Rattle.opid.specs.declared.refusal.Refusal.TheVariants.{Memory}

-- a result, its value seen by `seen`, is the right one
abbrev pub Tells : {A B : Type 0} → (A → B) → Result A Refusal → Result B Refusal → Type 0
Tells seen (Ok x) right = right ≡ Ok (seen x)
Tells seen (Err e) right = right ≡ Err e

-- a value that is seen as it is
abbrev pub same : {A : Type 0} → A → A
same x = x

-- a result, its value seen by `seen`, is the right one, or memory was refused
abbrev pub Gives : {A B : Type 0} → (A → B) → Result A Refusal → Result B Refusal → Type 0
Gives seen (Ok x) right = right ≡ Ok (seen x)
Gives seen (Err e) right = (e ≡ Memory) ⊎ (right ≡ Err e)
