-- Each event leaves a world a world.
use Rattle.std.proofs.Common.{◌≡◌, ℕ, ◌<◌, ◌≤◌, zero, suc, Bool, true, false, Option, Some, None, List, [], ◌∷◌, ◌++◌, length, take, refl}
use Rattle.std.proofs.Common.{ap, ◌∙◌, sym, subst, arith, inl, inr}
use Rattle.std.specs.Prelude.{nat_lt, is_some, if◌then◌else◌, slice_get}
use Rattle.opid.specs.declared.refusal.Refusal.TheVariants.{BadRange, UnknownKind, SiteUsed}
use Rattle.opid.specs.Operations.{Operation}
use Rattle.opid.proofs.Orders.{Among, Each-at}
use Rattle.room_model.specs.declared.call.Call.{Call}
use Rattle.room_model.specs.Machine.{room_over, recorded_next, counted, may_record}
use Rattle.room_model.specs.History.{Account, mark, called, account_over}
use Rattle.room_model.specs.declared.event.Event.{Event}
use Rattle.room_model.specs.declared.event.Event.TheVariants as events
use Rattle.room_model.specs.declared.world_reply.WorldReply.TheVariants as worlds
use Rattle.room_model.specs.World.{Stepped, refused, room_of, with_room, logs_of, puts, call_of, carry_of, carry_to, fork_of, NamesSites}
use Rattle.room_model.specs.World.{step}
use Rattle.room_model.specs.Converges.{IsSiteOf, IsWorld}
use Rattle.replica_world.proofs.Rooms.{log_of, Stood, stood, not_there}
use Rattle.replica_world.proofs.Following.{Follows, room_there, log_there, replaced, unchanged_room}
use Rattle.replica_world.proofs.Calling.{call-follows}
use Rattle.replica_world.proofs.Delivering.{put_one, carry-follows}
use Rattle.replica_world.proofs.Forking.{forked}

called_world : (world : List Account) → IsWorld world → (site : ℕ) (a : Account) → (s : Stood site world a) → (c : Call)
    → (may_record a.state ≡ true → mark a.history ≤ length a.history → Follows (logs_of world) a (called a (mark a.history) c))
    → IsWorld (with_room site (called a (mark a.history) c) world)
called_world world w site a s c f = go (may_record a.state) refl
  where
    go : (t : Bool) → may_record a.state ≡ t → IsWorld (with_room site (called a (mark a.history) c) world)
    go true e = replaced site world a (called a (mark a.history) c) w s
        (f e (Each-at (IsSiteOf (logs_of world)) world a w.rooms (room_there site world a s)).marked)
    go false e =
        let same : called a (mark a.history) c ≡ a = ap (λ t. let b : Account =
        record {
          opening = a.opening;
          history = if t then a.history ++ (mark a.history, c) ∷ [] else a.history;
          state =
              if t then counted (recorded_next a.state c) else a.state;
        } in b) e in
        subst IsWorld (sym (ap (λ b. with_room site b world) same ∙ unchanged_room site world a s)) w

pub call-keeps : (world : List Account) → IsWorld world → (site : ℕ) (o : Option Account) → room_of site world ≡ o → (c : Call)
    → puts c ≡ None → IsWorld (call_of site o c world).world
call-keeps world w site None e c p = w
call-keeps world w site (Some a) e c p = called_world world w site a (stood site world a e) c
    (λ m k. call-follows world w site a (stood site world a e) (mark a.history) c p m k (omega arith))

-- an operation of a log is one of the logs'
pub in_log_at : (ops : List Operation) (n : ℕ) (x : Operation) → slice_get ops n ≡ Some x → Among x ops
in_log_at [] n x e = cc
in_log_at (y ∷ ops) zero x e = inl (same e)
  where
    same : Some y ≡ Some x → x ≡ y
    same q = cc
in_log_at (y ∷ ops) (suc n) x e = inr (in_log_at ops n x e)

pub carry-keeps : (world : List Account) → IsWorld world → (start to n : ℕ) (o p : Option Account) → room_of start world ≡ o
    → room_of to world ≡ p → IsWorld (carry_to to o p n world).world
carry-keeps world w start to n None p e f = w
carry-keeps world w start to n (Some a) None e f = w
carry-keeps world w start to n (Some a) (Some b) e f = go (slice_get a.state.log n) refl
  where
    go : (o : Option Operation) → slice_get a.state.log n ≡ o → IsWorld (carry_of to b o world).world
    go None q = w
    go (Some x) q =
        called_world world w to b (stood to world b f) (put_one x)
        (λ m k. carry-follows world w to b (stood to world b f) (mark b.history) x
        (log_of a, log_there start world a (stood start world a e), in_log_at a.state.log n x q) m k (omega arith))

pub fork-keeps : (world : List Account) → IsWorld world → (new start n : ℕ) → new < 32 → room_of new world ≡ None → (o : Option Account)
    → room_of start world ≡ o → IsWorld (fork_of new o n world).world
fork-keeps world w new start n b free None e = w
fork-keeps world w new start n b free (Some a) e = go (nat_lt (length a.state.log) n)
  where
    go : (t : Bool) → IsWorld (if t then refused BadRange world
        else (let s : Stepped = record { reply = worlds.Forked; world = world ++ account_over (room_over new (take n a.state.log)) ∷ [] }
        in s)).world
    go true = w
    go false = forked start world a w (stood start world a e) new n b (not_there new world free)

pub step-keeps : (world : List Account) → IsWorld world → (e : Event) → NamesSites e → IsWorld (step world e).world
step-keeps world w (events.Call site c) b = go (puts c) refl
  where
    go : (o : Option (List Operation)) → puts c ≡ o → IsWorld
        (if is_some o then refused UnknownKind world else call_of site (room_of site world) c world).world
    go (Some ops) p = w
    go None p = call-keeps world w site (room_of site world) refl c p
step-keeps world w (events.Carry start n to) b = carry-keeps world w start to n (room_of start world) (room_of to world) refl refl
step-keeps world w (events.Fork new start n) b = go (room_of new world) refl
  where
    go : (o : Option Account) → room_of new world ≡ o → IsWorld
        (if is_some o then refused SiteUsed world else fork_of new (room_of start world) n world).world
    go (Some a) e = w
    go None e = fork-keeps world w new start n b e (room_of start world) refl
