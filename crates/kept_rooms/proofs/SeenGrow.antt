-- What a look adds to the log that a pass has seen.
use Rattle.std.proofs.Common.{◌≡◌, ℕ, ◌≤◌, zero, suc, List, [], ◌∷◌, ◌++◌, length, drop, Some, slice_get, slice_set, Result, Ok, Err}
use Rattle.std.proofs.Common.{refl, ap, ap₂, sym, subst, ◌∙◌, ⊎_elim, arith}
use Rattle.std.proofs.lemmas.Option.{slice_get_within}
use mathlib.Core.List.{IsPrefix}
use Rattle.opid.specs.declared.refusal.Refusal.{Refusal}
use Rattle.opid.specs.declared.refusal.Refusal.TheVariants.{Worn, Memory}
use Rattle.opid.specs.Lawful.{IsLawful}
use Rattle.room_model.specs.declared.call.Call.{Call}
use Rattle.room_model.specs.Machine.{State, room_over, next}
use Rattle.room_model.specs.History.{state_of, replayed, IsConsistent}
use Rattle.room.proofs.Handing.{Extends, Extends-refl}
use Rattle.room.proofs.Known.{state_of-extends}
use Rattle.room.proofs.Replayed.{legal_history}
use Rattle.shared_room.specs.declared.look.Look.{Look}
use Rattle.shared_room.specs.Views.{View, view, opening}
use Rattle.shared_room.specs.Turns.{Visits}
use Rattle.shared_room.specs.Looks.{LooksAt}
use Rattle.ws_server.specs.declared.hall.Hall.{Hall}
use Rattle.ws_server.specs.declared.hall.HallPass.{HallPass}
use Rattle.ws_server.specs.Halls.{rooms_of, IsHallPassOf}
use Rattle.ws_server.specs.Keeping.{LooksInto}
use Rattle.ws_server.proofs.Passes.{pass_at, same_length}
use Rattle.kept_rooms.specs.SeenLogs.{log_seen, log_between, seen_log}
use Rattle.kept_rooms.specs.Keeping.{IsOverLog}
use Rattle.kept_rooms.proofs.Opened.{within_at}

-- calls behind calls
state_behind : (S : State) (h more : List (ℕ × Call)) → state_of S (h ++ more) ≡ state_of (state_of S h) more
state_behind S [] more = refl
state_behind S (e ∷ h) more = state_behind (next S e.1) h more

-- through visits the log that was seen only grows
visits_extend : (O : State) (v w : View) → Visits v w → Extends (state_of O v.seen).log (state_of O w.seen).log
visits_extend O v w visits =
    let begins = visits.0.begins in
    let seen : w.seen ≡ v.seen ++ begins.0 = visits.1.seen ∙ sym begins.1 in
    let is : (state_of O w.seen).log ≡ (state_of (state_of O v.seen) begins.0).log =
    ap (λ (h : List (ℕ × Call)). (state_of O h).log) seen ∙ ap (λ (S : State). S.log) (state_behind O v.seen begins.0) in
    let on = state_of-extends (state_of O v.seen) begins.0 in
    (on.0, is ∙ on.1)

-- so it does through a look, whatever that gave
looks_extend : (O : State) (v w : View) (after : ℕ) (result : Result Look Refusal) → LooksAt O v w after result
    → Extends (state_of O v.seen).log (state_of O w.seen).log
looks_extend O v w after (Ok look) looked = visits_extend O v w looked.told.0
looks_extend O v w after (Err why) looked = ⊎_elim
    (λ (is : why ≡ Worn). let same : w ≡ v = looked.worn_same (ap Err is) in
    subst (λ (u : View). Extends (state_of O v.seen).log (state_of O u.seen).log) (sym same) (Extends-refl (state_of O v.seen).log))
    (λ (is : why ≡ Memory). visits_extend O v w (looked.memory (ap Err is)))
    looked.cause

-- the pass at a place that was put there
set_there : {A : Type 0} (xs : List A) (at : ℕ) (x y : A) → slice_get xs at ≡ Some x → slice_get (slice_set xs at y) at ≡ Some y
set_there [] at x y h = absurd cc
set_there (z ∷ xs) zero x y h = refl
set_there (z ∷ xs) (suc at) x y h = set_there xs at x y h

module _ (hall : Hall) (at after : ℕ) (pass pass' : HallPass) (result : Result Look Refusal)
    (looked : LooksInto hall at pass.passes.items after result pass'.passes.items) where
  -- what was seen before
  before : seen_log hall at pass ≡ log_seen looked.0 looked.1
  before = ap₂ log_between looked.3 looked.4

  -- what is seen since
  since : seen_log hall at pass' ≡ log_seen looked.0 looked.2
  since = ap₂ log_between looked.3
      (ap (λ ps. slice_get ps at) looked.5 ∙ set_there pass.passes.items at looked.1 looked.2 looked.4)

  -- it only grows
  pub grown : IsPrefix (seen_log hall at pass) (seen_log hall at pass')
  grown =
      let on = looks_extend (opening looked.0) (view looked.1) (view looked.2) after result looked.6 in
      (on.0, ap (λ log. log ++ on.0) before ∙ sym (since ∙ on.1))

-- the log that a pass has seen is lawful and within its limit, where the room was opened over such a log
pub sound : (hall : Hall) (at : ℕ) (pass : HallPass) → IsHallPassOf hall pass → IsOverLog hall at
    → IsLawful (seen_log hall at pass) × (length (seen_log hall at pass) ≤ 131072)
sound hall at pass is over =
    let less = slice_get_within (rooms_of hall) at over.room over.there in
    let there = within_at pass.passes.items at (let same = same_length (rooms_of hall) pass.passes.items is in omega (arith, same, less)) in
    let one = pass_at (rooms_of hall) pass.passes.items at over.room there.0 is over.there there.1 in
    let whole : IsConsistent (replayed (room_over over.site over.log) (view there.0).seen) =
    legal_history over.site over.log (view there.0).seen over.one over.lawful over.few one.legal one.hands in
    let log : (state_of (room_over over.site over.log) (view there.0).seen).log ≡ seen_log hall at pass =
    ap (λ O. (state_of O (view there.0).seen).log) (sym over.opened) ∙ sym (ap₂ log_between over.there there.1) in
    (subst IsLawful log whole.lawful, subst (λ l. length l ≤ 131072) log whole.short)

module _ (hall : Hall) (at after : ℕ) (pass pass' : HallPass) (look : Look)
    (looked : LooksInto hall at pass.passes.items after (Ok look) pass'.passes.items) where
  -- what a look shows is of the log that is seen since
  pub shown : (look.ops ≡ drop after (seen_log hall at pass')) × (look.version ≡ length (seen_log hall at pass'))
  shown =
      let told = looked.6.told in
      let found : (state_of (opening looked.0) (view looked.2).found).log ≡ seen_log hall at pass' =
      ap (λ (h : List (ℕ × Call)). (state_of (opening looked.0) h).log) (sym told.0.1.seen)
      ∙ sym (since hall at after pass pass' (Ok look) looked) in
      (told.1.ops ∙ ap (drop after) found, told.1.version ∙ ap length found)
