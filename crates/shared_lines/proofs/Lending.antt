-- A desk that is lent a pass keeps the room and the reference, so what was served over it was served through the pass.
use Rattle.std.proofs.Common.{◌≡◌, ◌⊎◌, ℕ, List, Option, Result, inl, inr, refl, sym, subst, ap, ◌∙◌}
use Rattle.room_model.specs.declared.call.Call.{Call}
use Rattle.room_model.specs.declared.reply.Reply.{Reply}
use Rattle.room_model.specs.declared.desk_fault.DeskFault.{DeskFault}
use Rattle.shared_room.specs.declared.shared.SharedRoom.{SharedRoom}
use Rattle.shared_room.specs.declared.desk.PassDesk.{PassDesk}
use Rattle.shared_room.specs.Views.{View, view, opening}
use Rattle.shared_room.specs.Turns as turns
use Rattle.shared_room.specs.PassSteps.{pass_step, pass_fault}
use Rattle.line_engine.specs.AnsweredRequests.{AnswersRequest}
use Rattle.line_engine.specs.ServedLines.{Serves, StartsNot}
use Rattle.line_engine.specs.declared.fault.ServeFault.{ServeFault}
use Rattle.shared_lines.proofs.Following.{answered, serves}

abbrev pub desk_step : {H : Type 0} → PassDesk H → Call → Reply → PassDesk H → Type 0
desk_step old call reply new =
    (new.room.now ≡ old.room.now) × (new.pass.ghost_name ≡ old.pass.ghost_name)
    × turns.Answers (opening old.room.now) (view old.pass.now) (view new.pass.now) call reply

abbrev pub desk_fault : {H : Type 0} → PassDesk H → Call → DeskFault → PassDesk H → Type 0
desk_fault old call why new =
    (new.room.now ≡ old.room.now) × (new.pass.ghost_name ≡ old.pass.ghost_name)
    × turns.FaultsPass (view old.pass.now) why (view new.pass.now)

-- a desk of this room, which is lent the same reference, and what its pass knows
abbrev Lent : {H : Type 0} → SharedRoom → PassDesk H → PassDesk H → View → Type 0
Lent room first desk v = (desk.room.now ≡ room) × (desk.pass.ghost_name ≡ first.pass.ghost_name) × (view desk.pass.now ≡ v)

lent_step : {H : Type 0} (room : SharedRoom) (first a : PassDesk H) (c : Call) (r : Reply) (b : PassDesk H) (v : View) → Lent room first a v
    → desk_step a c r b → (w : View) × Lent room first b w × pass_step (opening room) v c r w
lent_step room first a c r b v (here, name, knows) (stays, same, did) = (
  view b.pass.now,
  (stays ∙ here, same ∙ name, refl),
  subst (λ (u : View). turns.Answers (opening room) u (view b.pass.now) c r) knows
      (subst (λ (s : SharedRoom). turns.Answers (opening s) (view a.pass.now) (view b.pass.now) c r) here did),
)

lent_fault : {H : Type 0} (room : SharedRoom) (first a : PassDesk H) (c : Call) (e : DeskFault) (b : PassDesk H) (v : View)
    → Lent room first a v
    → desk_fault a c e b → (w : View) × Lent room first b w × pass_fault v c e w
lent_fault room first a c e b v (here, name, knows) (stays, same, did) = (
  view b.pass.now,
  (stays ∙ here, same ∙ name, refl),
  subst (λ (u : View). turns.FaultsPass u e (view b.pass.now)) knows did,
)

-- what was served over the desk was served through its pass, and the desk kept the room and the reference
abbrev Ended : {H U : Type 0} → PassDesk H → PassDesk H → List ℕ → Option (List ℕ) → List ℕ → Result U ServeFault → Type 0
Ended first last got left written r =
    (last.room.now ≡ first.room.now) × (last.pass.ghost_name ≡ first.pass.ghost_name)
    × (StartsNot (view first.pass.now) got written r (view last.pass.now)
    ⊎ Serves (AnswersRequest (pass_step (opening first.room.now)) pass_fault) (view first.pass.now) got left written r (view last.pass.now))

pub lent : {H U : Type 0} (first last : PassDesk H) (got : List ℕ) (left : Option (List ℕ)) (written : List ℕ) (r : Result U ServeFault)
    → StartsNot first got written r last ⊎ Serves (AnswersRequest desk_step desk_fault) first got left written r last
    → Ended first last got left written r
lent first last got left written r (inl none) = (
  ap (λ d. d.room.now) none.same,
  ap (λ d. d.pass.ghost_name) none.same,
  inl (record { cause = none.cause; unread = none.unread; unwritten = none.unwritten; same = ap (λ d. view d.pass.now) none.same }),
)
lent {H} {U} first last got left written r (inr did) =
    let room = first.room.now in
    let v = view first.pass.now in
    let each = answered (PassDesk H) View desk_step desk_fault (pass_step (opening room)) pass_fault (Lent room first)
    (lent_step room first) (lent_fault room first) in
    let k = serves (PassDesk H) View (AnswersRequest desk_step desk_fault) (AnswersRequest (pass_step (opening room)) pass_fault)
    (Lent room first) each
    first got left written r last v (refl, refl, refl) did in
    let like = k.1 in (
      like.0,
      like.1,
      inr (subst (λ (u : View). Serves (AnswersRequest (pass_step (opening room)) pass_fault) v got left written r u) (sym like.2) k.2),
    )
