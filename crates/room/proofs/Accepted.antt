-- An insertion that is accepted stands at its place.
use Rattle.std.proofs.Common.{◌≡◌, ℕ, ◌<◌, ◌≤◌, Bool, true, false, Option, Some, None, length, refl, subst, arith, Ok, Err}
use Rattle.std.specs.Prelude.{nat_lt, if◌then◌else◌}
use Rattle.std.proofs.lemmas.Bool.Decides.{nat_tests}
use Rattle.opid.specs.declared.refusal.Refusal.{Refusal}
use Rattle.opid.specs.declared.refusal.Refusal.TheVariants.{BadVersion, BadText, BadPlace, Full}
use Rattle.opid.specs.Asked.{asked_insertions_in}
use Rattle.opid.specs.Lawful.{IsLawful}
use Rattle.opid.specs.Limits.{is_bad_count}
use Rattle.opid.specs.Places.{insertion_refusal_in}
use Rattle.position_translate.proofs.Asking.{insertions_placed}
use Rattle.opid.specs.declared.submission.Submission.TheVariants.{New, Repeat}
use Rattle.opid.specs.Sessions.{session_with}
use Rattle.opid.specs.Sessions.{submission_of}
use Rattle.room_model.specs.declared.call.Call.{Call}
use Rattle.room_model.specs.Machine.{State, Finding, counts_units, check, found_in_submission, unless}
use Rattle.room_model.specs.History.{Account, IsConsistent, PlacesInsertion}

unless_accepted : (r : Option Refusal) → unless r ≡ Ok New → r ≡ None
unless_accepted None h = refl
unless_accepted (Some e) h = cc

pub first_accepted : (f : Finding) (r : Option Refusal) → found_in_submission f r ≡ Ok New → r ≡ None
first_accepted (Err e) r h = cc
first_accepted (Ok (Repeat a b)) r h = cc
first_accepted (Ok New) r h = unless_accepted r h

pub at_most : (m k : ℕ) → nat_lt m k ≡ false → k ≤ m
at_most m k h = grind (arith, nat_tests)

-- what is not refused is at a place of the version that it names
not_bad : (a b c d : Bool) → (if a then Some BadVersion else if b then Some BadText else if c then Some BadPlace else if d then Some Full
    else None) ≡ None → c ≡ false
not_bad true b c d h = cc
not_bad false true c d h = cc
not_bad false false true d h = cc
not_bad false false false d h = refl

pub accepted_is_placed : (S : State) → IsLawful S.log → S.site < 32 → (c : Call) → PlacesInsertion S c
accepted_is_placed S l b c s n v k x e a =
    let u : Bool = counts_units s S.outbox in
    let here : found_in_submission (submission_of (session_with s S.outbox.sessions) n v) (insertion_refusal_in u S.log v k x) ≡ Ok New =
    subst (λ (d : Call). check S d ≡ Ok New) e a in
    let none : insertion_refusal_in u S.log v k x ≡ None =
    first_accepted (submission_of (session_with s S.outbox.sessions) n v) (insertion_refusal_in u S.log v k x) here in
    insertions_placed u S.log (asked_insertions_in u S.log S.site v k x) S.site v k x l b
    (not_bad _ (is_bad_count (length x)) _ _ none) refl

pub consistent_places : (room : Account) (c : Call) → IsConsistent room → PlacesInsertion room.state c
consistent_places room c r = accepted_is_placed room.state r.lawful r.site c
