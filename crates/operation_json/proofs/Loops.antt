-- What a loop made before, and what it still makes.
use Rattle.std.proofs.Common.{List, ◌++◌, Result, Ok}
use Rattle.opid.specs.declared.refusal.Refusal.{Refusal}
use Rattle.operation_json.specs.Members.{◌>>=◌}

-- what was made before, and what is still made
abbrev pub with_front : {A : Type 0} → List A → Result (List A) Refusal → Result (List A) Refusal
with_front front rest = rest >>= λ ys. Ok (front ++ ys)
