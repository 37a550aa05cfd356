-- A log to which is appended what a look showed behind it.
use Rattle.std.proofs.Common.{◌≡◌, ◌≤◌, ◌+◌, ◌⊎◌, ℕ, zero, suc, List, [], ◌∷◌, ◌++◌, length, drop, Ok, inl, inr}
use Rattle.std.proofs.Common.{refl, ap, ap₂, sym, subst, ◌∙◌, append_assoc, arith}
use mathlib.Core.List.{IsPrefix}
use Rattle.std.proofs.lemmas.List.{length-append}
use Rattle.opid.specs.declared.refusal.Refusal.{Refusal}
use Rattle.opid.specs.declared.refusal.Refusal.TheVariants.{Worn, Memory}
use Rattle.opid.specs.Operations.{Operation}
use Rattle.opid.specs.Lawful.{IsLawful, GoesOn}
use Rattle.opid.proofs.Logs.{goes_on_after}
use Rattle.shared_room.specs.declared.look.Look.{Look}
use Rattle.ws_server.specs.declared.hall.Hall.{Hall}
use Rattle.ws_server.specs.declared.hall.HallPass.{HallPass}
use Rattle.ws_server.specs.Halls.{IsHallPassOf}
use Rattle.ws_server.specs.Keeping.{LooksInto}
use Rattle.kept_rooms.specs.Keeping.{IsOverLog}
use Rattle.kept_rooms.specs.SeenLogs.{seen_log}
use Rattle.kept_rooms.proofs.SeenGrow.{grown, sound, shown}

-- what stands behind a list
drop_front : {X : Type 0} (xs more : List X) → drop (length xs) (xs ++ more) ≡ more
drop_front [] [] = refl
drop_front [] (x ∷ more) = refl
drop_front (x ∷ xs) more = drop_front xs more

-- a beginning, and what is dropped by its length, are the whole
whole_again : {X : Type 0} (xs all : List X) → IsPrefix xs all → xs ++ drop (length xs) all ≡ all
whole_again xs all begins =
    ap (λ ys. xs ++ drop (length xs) ys) (sym begins.1) ∙ ap (λ ys. xs ++ ys) (drop_front xs begins.0) ∙ begins.1

prefix_trans : {X : Type 0} (xs ys zs : List X) → IsPrefix xs ys → IsPrefix ys zs → IsPrefix xs zs
prefix_trans xs ys zs p q =
    (p.0 ++ q.0, sym (append_assoc xs p.0 q.0) ∙ ap (λ l. l ++ q.0) p.1 ∙ q.1)

pub followed : (hall : Hall) (at after : ℕ) (pass pass' : HallPass) (look : Look) (log new ops : List Operation)
    → LooksInto hall at pass.passes.items after (Ok look) pass'.passes.items → after ≡ length log → ops ≡ look.ops
    → new ≡ log ++ ops → IsPrefix log (seen_log hall at pass) → new ≡ seen_log hall at pass'
followed hall at after pass pass' look log new ops looked from is appended begins =
    let seen = shown hall at after pass pass' look looked in
    let all = prefix_trans log (seen_log hall at pass) (seen_log hall at pass') begins
    (grown hall at after pass pass' (Ok look) looked) in
    appended ∙ ap (λ l. log ++ l) (is ∙ seen.0 ∙ ap (λ n. drop n (seen_log hall at pass')) from)
    ∙ whole_again log (seen_log hall at pass') all

-- such a log may go on by it, and there is place for it
pub may_go_on : (hall : Hall) (at after : ℕ) (pass pass' : HallPass) (look : Look) (log ops : List Operation)
    → LooksInto hall at pass.passes.items after (Ok look) pass'.passes.items → IsHallPassOf hall pass' → after ≡ length log
    → ops ≡ look.ops → IsOverLog hall at → IsPrefix log (seen_log hall at pass) → GoesOn log ops × (length log + length ops ≤ 131072)
may_go_on hall at after pass pass' look log ops looked is_pass from is over begins =
    let all = followed hall at after pass pass' look log (log ++ ops) ops looked from is refl begins in
    let sure = sound hall at pass' is_pass over in
    let long = length-append log ops in
    let few = subst (λ l. length l ≤ 131072) (sym all) sure.1 in
    (goes_on_after [] log ops (subst IsLawful (sym all) sure.0), omega (arith, long, few))

-- so what refuses them is memory
pub lacks_memory : (log ops : List Operation) (why : Refusal)
    → (why ≡ Memory) ⊎ (GoesOn log ops → length log + length ops ≤ 131072 → ⊥)
    → GoesOn log ops × (length log + length ops ≤ 131072) → (why ≡ Worn) ⊎ (why ≡ Memory)
lacks_memory log ops why (inl memory) may = inr memory
lacks_memory log ops why (inr cannot) may = absurd (cannot may.0 may.1)
