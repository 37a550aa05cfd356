-- What a room of a world may be followed by, and what a recorded call leaves.
use Rattle.std.proofs.Common.{◌≡◌, ℕ, ◌+◌, ◌≤◌, true, List, [], ◌∷◌, ◌++◌, length, refl, ap, ◌∙◌, sym, subst, arith, inl, inr, ◌⊎◌}
use Rattle.std.specs.Prelude.{if◌then◌else◌}
use Rattle.std.proofs.lemmas.List.{length-append}
use Rattle.opid.specs.Operations.{Operation}
use Rattle.opid.specs.Delivery.{clock_of}
use Rattle.opid.specs.Lawful.{IsLawful}
use Rattle.opid.specs.Strong.{SiteLog, AreCountedFrom, IsOfOne}
use Rattle.opid.proofs.Orders.{Among, Each-at, Each-by, Among-append, Among-append_left, Among-append_right, Among-from_Contains}
use Rattle.opid.proofs.Orders.{Contains-from_Among}
use Rattle.opid.proofs.Worlds.{Of, AreOf}
use Rattle.opid.specs.Held.{NoneReady}
use Rattle.room_model.specs.declared.call.Call.{Call}
use Rattle.room_model.specs.Machine.{State, recorded_next, counted, may_record, next}
use Rattle.room_model.specs.History.{Account, mark, recorded, called, IsConsistent}
use Rattle.room.proofs.Histories.{mark_from-push}
use Rattle.room_model.specs.World.{with_room, logs_of}
use Rattle.room_model.specs.Received.{received, got}
use Rattle.room_model.specs.Converges.{IsReceived, IsSiteOf, IsWorld}
use Rattle.replica_world.proofs.Settling.{site_log}
use Rattle.replica_world.proofs.Growing.{Grow, Of-grown, logs-grown}
use Rattle.replica_world.proofs.Rooms.{log_of, Stood, logs-append, got-push}

-- ---- std's word and ours

pub Of-from : (logs : List SiteLog) (x : Operation) → IsOfOne logs x → Of logs x
Of-from logs x o = (o.0, Among-from_Contains logs o.0 o.1, Among-from_Contains (o.0).log x o.2)

pub Of-to : (logs : List SiteLog) (x : Operation) → Of logs x → IsOfOne logs x
Of-to logs x o = (o.0, Contains-from_Among logs o.0 o.1, Contains-from_Among (o.0).log x o.2)

-- what a room holds back are operations of the logs
pub held_of : (logs : List SiteLog) (a : Account) → IsSiteOf logs a → AreOf logs a.state.held
held_of logs a r y k = Of-from logs y (r.held y (Contains-from_Among a.state.held y k))

-- ---- one room changes

-- the room's account may be followed by another one
pub record Follows (logs : List SiteLog) (a new : Account) : Type 0 where
  pub site : new.state.site ≡ a.state.site
  pub more : List Operation
  pub log_is : new.state.log ≡ a.state.log ++ more
  pub lawful : IsLawful new.state.log
  pub limit : length new.state.log ≤ 131072
  pub own_or_of : (y : Operation) → Among y more → (y.site ≡ a.state.site) ⊎ Of logs y
  pub counted : AreCountedFrom (length a.state.log + 1) a.state.site more
  pub consistent : IsConsistent new
  pub marked : mark new.history ≤ length new.history
  pub held : AreOf logs new.state.held
  pub settled : (131072 ≤ length new.state.log) ⊎ NoneReady (clock_of new.state.log) new.state.held
  pub received : IsReceived new.state.log new.state.held (got new)

there_at : (front back : List Account) (a : Account) → Among a (front ++ a ∷ back)
there_at front back a = Among-append_right a front (a ∷ back) (inl refl)

pub room_there : (site : ℕ) (world : List Account) (a : Account) → (s : Stood site world a) → Among a world
room_there site world a s = subst (Among a) (sym s.world_is) (there_at s.front s.back a)

pub log_there : (site : ℕ) (world : List Account) (a : Account) → (s : Stood site world a)
    → Among (site_log a.state.site a.state.log) (logs_of world)
log_there site world a s =
    subst (Among (log_of a)) (sym (ap (λ w. logs_of w) s.world_is ∙ logs-append s.front (a ∷ s.back)))
    (Among-append_right (log_of a) (logs_of s.front) (log_of a ∷ logs_of s.back) (inl refl))

pub replaced : (site : ℕ) (world : List Account) (a new : Account) → IsWorld world → (s : Stood site world a)
    → Follows (logs_of world) a new → IsWorld (with_room site new world)
replaced site world a new w s f = record {
  logs = logs-grown (logs_of world) (logs_of (with_room site new world)) w.logs g f.lawful f.limit f.own_or_of f.counted;
  rooms = Each-by (IsSiteOf (logs_of (with_room site new world))) (with_room site new world)
      (λ c i. room c (Among-append c s.front (new ∷ s.back) (subst (Among c) (s.with_new new) i)));
}
  where
    g : Grow (logs_of world) (logs_of (with_room site new world))
    g = record {
      front = logs_of s.front;
      back = logs_of s.back;
      old = log_of a;
      grown = log_of new;
      more = f.more;
      logs_are = ap (λ w. logs_of w) s.world_is ∙ logs-append s.front (a ∷ s.back);
      new_are = ap (λ w. logs_of w) (s.with_new new) ∙ logs-append s.front (new ∷ s.back);
      site = f.site;
      log_is = f.log_is;
    }

    old_room : (c : Account) → Among c world → IsSiteOf (logs_of (with_room site new world)) c
    old_room c i = let r : IsSiteOf (logs_of world) c = Each-at (IsSiteOf (logs_of world)) world c w.rooms i in record {
      consistent = r.consistent;
      marked = r.marked;
      held = λ x k. Of-to (logs_of (with_room site new world)) x
          (Of-grown (logs_of world) (logs_of (with_room site new world)) g x (Of-from (logs_of world) x (r.held x k)));
      settled = r.settled;
      received = r.received;
    }

    new_room : IsSiteOf (logs_of (with_room site new world)) new
    new_room = record {
      consistent = f.consistent;
      marked = f.marked;
      held = λ x k. Of-to (logs_of (with_room site new world)) x
          (Of-grown (logs_of world) (logs_of (with_room site new world)) g x (f.held x (Among-from_Contains new.state.held x k)));
      settled = f.settled;
      received = f.received;
    }

    room : (c : Account) → Among c s.front ⊎ Among c (new ∷ s.back) → IsSiteOf (logs_of (with_room site new world)) c
    room c (inl i) = old_room c (subst (Among c) (sym s.world_is) (Among-append_left c s.front (a ∷ s.back) i))
    room c (inr (inl q)) = subst (IsSiteOf (logs_of (with_room site new world))) (sym q) new_room
    room c (inr (inr i)) = old_room c (subst (Among c) (sym s.world_is) (Among-append_right c s.front (a ∷ s.back) (inr i)))

-- a room that doesn't change
pub unchanged_room : (site : ℕ) (world : List Account) (a : Account) → (s : Stood site world a) → with_room site a world ≡ world
unchanged_room site world a s = s.with_new a ∙ sym s.world_is

-- ---- a call that is recorded

recorded_is : (a : Account) (t : ℕ) (c : Call) → may_record a.state ≡ true → recorded a t c ≡ a.history ++ (t, c) ∷ []
recorded_is a t c e = ap (λ b. if b then a.history ++ (t, c) ∷ [] else a.history) e

pub next_is : (S : State) (c : Call) → may_record S ≡ true → next S c ≡ counted (recorded_next S c)
next_is S c e = ap (λ b. if b then counted (recorded_next S c) else S) e

pub marked_on : (a : Account) (t : ℕ) (c : Call) → may_record a.state ≡ true → t ≤ length a.history
    → mark (called a t c).history ≤ length (called a t c).history
marked_on a t c e b =
    subst (λ (h : List (ℕ × Call)). mark h ≤ length h) (sym (recorded_is a t c e))
    (omega (arith, b, mark_from-push 0 a.history (t, c), length-append a.history ((t, c) ∷ [])))

pub got_on : (logs : List SiteLog) (a : Account) (t : ℕ) (c : Call) → IsSiteOf logs a → may_record a.state ≡ true
    → got (called a t c) ≡ got a ++ received a.state c
got_on logs a t c r e =
    ap (λ h. got (record { opening = a.opening; history = h; state = a.state })) (recorded_is a t c e)
    ∙ got-push a.opening.log a.opening a.history (t, c)
    ∙ ap (λ S. got a ++ received S c) r.consistent.replays
