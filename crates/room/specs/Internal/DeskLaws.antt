-- That a desk over an owned room keeps the laws of desks.
use Rattle.std.proofs.Common.{◌≡◌, ℕ, zero, suc, ◌+◌, ◌<◌, ◌≤◌, List, [], ◌∷◌, ◌++◌, length, Some, slice_get, refl, ap, sym, subst, ◌∙◌}
use Rattle.std.proofs.Common.{arith, Bool, true, false, nat_lt, append-nil}
use Rattle.std.specs.Prelude.{if◌then◌else◌}
use Rattle.std.proofs.lemmas.Bool.Decides.{nat_tests}
use Rattle.opid.specs.declared.limits.TheConstants.{MAX_CALLS, MAX_OPERATIONS}
use mathlib.Core.List.{IsPrefix}
use Rattle.room_model.specs.declared.call.Call.{Call}
use Rattle.room_model.specs.declared.reply.Reply.{Reply}
use Rattle.room_model.specs.declared.desk_fault.DeskFault.{DeskFault}
use Rattle.room_model.specs.Machine.{State, answer}
use Rattle.room_model.specs.History.{Account, state_of, mark, AreRisingFrom, StepsRoom, FaultsRoom}
use Rattle.room_model.specs.Desks.{IsSight, IsAnswered, IsPassedOver, sight_of}

-- tickets rise, so one ticket is at one place
at_least : (t : ℕ) (h : List (ℕ × Call)) (i : ℕ) (e : ℕ × Call) → AreRisingFrom t h → slice_get h i ≡ Some e → t ≤ e.0
at_least t [] i e r q = absurd cc
at_least t (f ∷ fs) zero e r q = let same : f ≡ e = cc q in subst (λ (g : ℕ × Call). t ≤ g.0) same r.0
at_least t (f ∷ fs) (suc i) e r q = let l = at_least (f.0 + 1) fs i e r.2 q in let b = r.0 in omega arith

-- a ticket stands at one place of a history
pub one_place : (t : ℕ) (h : List (ℕ × Call)) (i j : ℕ) (e f : ℕ × Call) → AreRisingFrom t h → slice_get h i ≡ Some e
    → slice_get h j ≡ Some f → f.0 ≡ e.0 → j ≡ i
one_place t [] i j e f r p q same = absurd cc
one_place t (g ∷ gs) zero zero e f r p q same = refl
one_place t (g ∷ gs) zero (suc j) e f r p q same =
    let is : g ≡ e = cc p in let l = at_least (g.0 + 1) gs j f r.2 q in let n = ap (λ (x : ℕ × Call). x.0) is in absurd (omega arith)
one_place t (g ∷ gs) (suc i) zero e f r p q same =
    let is : g ≡ f = cc q in let l = at_least (g.0 + 1) gs i e r.2 p in let n = ap (λ (x : ℕ × Call). x.0) is in absurd (omega arith)
one_place t (g ∷ gs) (suc i) (suc j) e f r p q same = ap suc (one_place (g.0 + 1) gs i j e f r.2 p q same)

-- all calls of an owned room are its desk's
pub room_sight : (room : Account) → AreRisingFrom 0 room.history → length room.history ≤ MAX_CALLS
    → length (state_of room.opening room.history).log ≤ MAX_OPERATIONS → IsSight (sight_of room)
room_sight room rising limit short = record {
  short = short;
  legal = record { rising = rising; limit = limit };
  owns = λ k e q. (k, q, λ j f p same. one_place 0 room.history k j e f rising q p same);
  distinct = λ k l e f p q same. one_place 0 room.history l k f e rising q p same;
}

-- a list is a beginning of itself
prefix_same : {A : Type 0} (xs : List A) → IsPrefix xs xs
prefix_same xs = ([], append-nil xs)

-- below the limit a call is recorded
recorded_below : (h g : List (ℕ × Call)) (n : ℕ) → n < MAX_CALLS → (if nat_lt n MAX_CALLS then g else h) ≡ g
recorded_below h g n below = go (nat_lt n MAX_CALLS) refl
  where
    go : (b : Bool) → nat_lt n MAX_CALLS ≡ b → (if b then g else h) ≡ g
    go true q = refl
    go false q = absurd (grind (arith, nat_tests))

-- at the limit none is
recorded_full : (h g : List (ℕ × Call)) (n : ℕ) → n ≡ MAX_CALLS → (if nat_lt n MAX_CALLS then g else h) ≡ h
recorded_full h g n at = go (nat_lt n MAX_CALLS) refl
  where
    go : (b : Bool) → nat_lt n MAX_CALLS ≡ b → (if b then g else h) ≡ h
    go true q = absurd (grind (arith, nat_tests))
    go false q = refl

-- a room's step is an answer as a desk gives it
pub room_answers : (old : Account) (c : Call) (r : Reply) (new : Account) → length old.history ≤ MAX_CALLS → StepsRoom old c r new
    → IsAnswered (sight_of old) c r (sight_of new)
room_answers old c r new within did =
    let grown : List (ℕ × Call) = old.history ++ (mark old.history, c) ∷ [] in
    let history = ap (λ (a : Account). a.history) did.called in
    record {
      found = old.history;
      ticket = mark old.history;
      opening = ap (λ (a : Account). a.opening) did.called;
      begins = prefix_same old.history;
      within = within;
      answered = did.answered ∙ ap (λ (S : State). answer S c) (sym did.consistent.replays);
      recorded = λ below.
          let is = history ∙ recorded_below old.history grown old.state.count (let e = did.consistent.counted in omega arith) in (is, is);
      full = λ at. let is = history ∙ recorded_full old.history grown old.state.count (did.consistent.counted ∙ at) in (is, is);
    }

-- a room's fault passes a call over as a desk does
pub room_passes : (old : Account) (why : DeskFault) (new : Account) → FaultsRoom old why new → IsPassedOver (sight_of old) (sight_of new)
room_passes old why new did = record {
  opening = ap (λ (a : Account). a.opening) did.same;
  begins =
      subst (λ (l : List (ℕ × Call)). IsPrefix old.history l) (sym (ap (λ (a : Account). a.history) did.same)) (prefix_same old.history);
  mine = ap (λ (a : Account). a.history) did.same;
}
