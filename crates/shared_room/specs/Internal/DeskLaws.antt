-- That a desk over a pass keeps the laws of desks.
use Rattle.std.proofs.Common.{◌≡◌, ◌≤◌, ap, sym, subst, length, ℕ, List}
use Rattle.opid.specs.declared.limits.TheConstants.{MAX_OPERATIONS}
use mathlib.Core.List.{IsPrefix}
use Rattle.room_model.specs.declared.call.Call.{Call}
use Rattle.room_model.specs.declared.reply.Reply.{Reply}
use Rattle.room_model.specs.declared.desk_fault.DeskFault.{DeskFault}
use Rattle.room_model.specs.declared.desk_fault.DeskFault.TheVariants as Fault
use Rattle.room_model.specs.Machine.{State}
use Rattle.room_model.specs.History.{IsLegal, state_of}
use Rattle.room_model.specs.Desks.{Owns, AreDistinct, IsSight, IsAnswered, IsPassedOver}
use Rattle.history_lock.proofs.Prefixes.{prefix_self}
use Rattle.shared_room.specs.Views.{View, sight_through}
use Rattle.shared_room.specs.Turns.{Answers, FaultsPass}

-- what a pass has seen, between two calls, is what a desk has
pub pass_sight : (o : State) (v : View) → IsLegal v.seen → Owns v.mine v.seen → AreDistinct v.mine
    → length (state_of o v.seen).log ≤ MAX_OPERATIONS → IsSight (sight_through o v)
pass_sight o v legal owns distinct short = record { legal = legal; owns = owns; distinct = distinct; short = short }

-- a call of a pass is a desk's step
pub pass_answers : (o o' : State) (v w : View) (c : Call) (r : Reply) → o' ≡ o → Answers o v w c r
    → IsAnswered (sight_through o v) c r (sight_through o' w)
pass_answers o o' v w c r same did = record {
  found = w.found;
  ticket = w.drawn;
  opening = same;
  begins = did.0.begins;
  within = did.1.within;
  answered = did.1.answered;
  recorded = λ below. let k = did.1.recorded below in (k.seen, k.mine);
  full = λ at. let k = did.1.refused at in (k.seen, k.mine);
}

-- a fault of a pass is a desk's
pub pass_passes : (o o' : State) (v w : View) (why : DeskFault) → o' ≡ o → FaultsPass v why w
    → IsPassedOver (sight_through o v) (sight_through o' w)
pass_passes o o' v w Fault.Worn same did = record {
  opening = same;
  begins = subst (λ (u : View). IsPrefix v.seen u.seen) (sym did.1) (prefix_self v.seen);
  mine = ap (λ (u : View). u.mine) did.1;
}
pass_passes o o' v w Fault.Memory same did = record {
  opening = same;
  begins = subst (λ (l : List (ℕ × Call)). IsPrefix v.seen l) (sym did.1.stays.seen) did.0.begins;
  mine = did.1.stays.mine;
}
