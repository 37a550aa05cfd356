-- What a turn leaves that records nothing, and what is shown in it.
use Rattle.std.proofs.Common.{◌≡◌, ℕ, ◌-◌, List, length, take, drop, refl, ap, sym, subst, ◌∙◌}
use Rattle.std.specs.Prelude.{min}
use Rattle.std.proofs.lemmas.List.{take_rest, drop_min}
use Rattle.opid.specs.Operations.{Operation}
use Rattle.room_model.specs.declared.call.Call.{Call}
use Rattle.room_model.specs.Machine.{State}
use Rattle.room_model.specs.History.{Account}
use Rattle.history_lock.specs.declared.pass.Sight.{Sight}
use Rattle.history_lock.specs.Sights.{finished}
use Rattle.shared_room.specs.declared.kept.Item.{Item}
use Rattle.shared_room.specs.declared.look.Look.{Look}
use Rattle.shared_room.specs.Trails.{trail_of, calls_of}
use Rattle.shared_room.specs.Views.{view_of}
use Rattle.shared_room.specs.Turns.{Stays, Visits}
use Rattle.shared_room.specs.Looks.{ShowsRoom}
use Rattle.shared_room.proofs.Ending.{Begins, calls_trail, stays_after, takes_turn, mine_same, keeps_after}

-- a part of a log up to its end is all from its place on
pub rest_of_log : (log part : List Operation) (after version place : ℕ) → version ≡ length log → place ≡ min after version
    → part ≡ take (version - place) (drop place log) → part ≡ drop after log
rest_of_log log part after version place end at is =
    let first : place ≡ min after (length log) = at ∙ ap (min after) end in
    is ∙ ap (λ v. take (v - place) (drop place log)) end ∙ take_rest log place ∙ ap (λ p. drop p log) first ∙ drop_min after log

-- a turn that left the trail as it was found
pub visits_after : (s s' s'' : Sight Item) (R : Account) → Begins s s' → s'.found ≡ trail_of R → s'' ≡ finished s' (trail_of R)
    → Visits (view_of s) (view_of s'')
visits_after s s' s'' R b found is =
    let P : Sight Item → Type 0 = λ u. Stays (view_of s') (view_of u) in
    let stays = subst P (sym is) (stays_after s' R R found refl) in (
      takes_turn s s' (view_of s'') b (keeps_after s' s'' (trail_of R) is),
      record { seen = stays.seen; mine = stays.mine ∙ mine_same s s' b },
    )

-- the room that a turn found is what the pass has found since
pub shown_after : (o : State) (s s' : Sight Item) (R : Account) (after : ℕ) (look : Look) → R.opening ≡ o → s.found ≡ trail_of R
    → s' ≡ finished s (trail_of R) → ShowsRoom R.opening R.history after look → ShowsRoom o (view_of s').found after look
shown_after o s s' R after look opening found is h =
    let history : R.history ≡ calls_of s'.found =
    sym (ap (λ (u : Sight Item). calls_of u.found) is ∙ ap calls_of found ∙ calls_trail R) in
    subst (λ (calls : List (ℕ × Call)). ShowsRoom o calls after look) history
    (subst (λ (S : State). ShowsRoom S R.history after look) opening h)
