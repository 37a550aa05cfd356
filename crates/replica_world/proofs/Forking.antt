-- A fork leaves a world a world.
use Rattle.std.specs.Prelude.{min}
use Rattle.std.proofs.lemmas.Bool.Decides.{nat_tests}
use Rattle.std.proofs.Common.{◌≡◌, ◌≢◌, ℕ, ◌<◌, ◌≤◌, List, [], ◌∷◌, ◌++◌, length, take, sym, subst, arith, inl, inr}
use Rattle.std.specs.List.{AllByRecursion as Each}
use Rattle.std.proofs.lemmas.List.{length-take}
use Rattle.opid.specs.Operations.{Operation}
use Rattle.opid.specs.Strong.{SiteLog}
use Rattle.opid.proofs.Walk.{Each-append}
use Rattle.opid.proofs.Orders.{Among, Each-at, Each-by, Among-from_Contains}
use Rattle.room_model.specs.Machine.{room_over}
use Rattle.room_model.specs.History.{Account, IsConsistent, account_over}
use Rattle.room.proofs.Histories.{consistent_over}
use Rattle.opid.proofs.Logs.{IsLawful-take}
use Rattle.room_model.specs.World.{logs_of}
use Rattle.room_model.specs.Converges.{AreLogs, IsSiteOf, IsWorld}
use Rattle.replica_world.proofs.Growing.{Of-forked, logs-forked}
use Rattle.replica_world.proofs.Rooms.{log_of, Stood, logs-append}
use Rattle.replica_world.proofs.Following.{Of-from, Of-to, room_there, log_there}

pub room-forked : (logs : List SiteLog) (b : SiteLog) (a : Account) → IsSiteOf logs a → IsSiteOf (logs ++ b ∷ []) a
room-forked logs b a r = record {
  consistent = r.consistent;
  marked = r.marked;
  held = λ x k. Of-to (logs ++ b ∷ []) x (Of-forked logs b x (Of-from logs x (r.held x k)));
  settled = r.settled;
  received = r.received;
}

min_right : (m n : ℕ) → min m n ≤ n
min_right m n = grind (arith, nat_tests)

pub forked : (site : ℕ) (world : List Account) (a : Account) → IsWorld world → Stood site world a → (new n : ℕ) → new < 32
    → Each (λ c. c.site ≢ new) (logs_of world)
    → IsWorld (world ++ account_over (room_over new (take n a.state.log)) ∷ [])
forked site world a w s new n small d = record {
  logs = subst AreLogs (sym logs_are) (logs-forked (logs_of world) w.logs (log_of a) (log_there site world a s) new n d);
  rooms = subst (λ logs. Each (IsSiteOf logs) (world ++ b ∷ [])) (sym logs_are)
      (Each-append (IsSiteOf (logs_of world ++ log_of b ∷ [])) world (b ∷ [])
      (Each-by (IsSiteOf (logs_of world ++ log_of b ∷ [])) world
      (λ c i. room-forked (logs_of world) (log_of b) c (Each-at (IsSiteOf (logs_of world)) world c w.rooms i))) (
        record {
          consistent = consistent_over new (take n a.state.log) small (IsLawful-take a.state.log n there.lawful)
              (omega (arith, length-take n a.state.log, min_right n (length a.state.log), there.short));
          marked = omega arith;
          held = λ x k. absurd (nothing x (Among-from_Contains [] x k));
          settled = inr tt;
          received = record { stay = λ x k. inl k; logged = λ x k. k; waiting = λ x k. absurd (nothing x (Among-from_Contains [] x k)) };
        },
        tt,
      ));
}
  where
    b : Account
    b = account_over (room_over new (take n a.state.log))

    there : IsConsistent a
    there = (Each-at (IsSiteOf (logs_of world)) world a w.rooms (room_there site world a s)).consistent

    nothing : (x : Operation) → Among x [] → ⊥
    nothing x i = i

    logs_are : logs_of (world ++ b ∷ []) ≡ logs_of world ++ log_of b ∷ []
    logs_are = logs-append world (b ∷ [])
