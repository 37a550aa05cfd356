-- An operation that is carried may follow.
use Rattle.std.proofs.Common.{◌≡◌, ℕ, ◌+◌, ◌≤◌, true, Result, Ok, Err, List, [], ◌∷◌, ◌++◌, length, ap, ◌∙◌, sym, subst, arith, inl, inr}
use Rattle.std.proofs.Common.{◌⊎◌}
use Rattle.std.specs.Prelude.{Contains, if◌then◌else◌}
use Rattle.opid.specs.declared.refusal.Refusal.{Refusal}
use Rattle.opid.specs.declared.refusal.Refusal.TheVariants.{HistoryFull}
use Rattle.opid.specs.Operations.{Operation}
use Rattle.opid.specs.Delivery.{clock_of}
use Rattle.opid.specs.Lawful.{IsLawful}
use Rattle.opid.specs.Strong.{SiteLog}
use Rattle.opid.proofs.Orders.{Among, Each-at, Among-append, Among-append_left, Among-append_right, Among-from_Contains}
use Rattle.opid.proofs.Orders.{Contains-from_Among}
use Rattle.opid.proofs.Worlds.{Of, AreOf}
use Rattle.opid.specs.Held.{NoneReady}
use Rattle.opid.specs.declared.delivery.Delivery.{Delivery}
use Rattle.opid.specs.declared.delivery.Delivery.TheVariants.{Took, Kept, Again}
use Rattle.opid.specs.Delivered.{Delivered, deliver}
use Rattle.room_model.specs.declared.call.Call.{Call}
use Rattle.room_model.specs.declared.call.Call.TheVariants.{Put}
use Rattle.room_model.specs.declared.reply.Reply.TheVariants as replies
use Rattle.room_model.specs.Deliveries.{outcome_of}
use Rattle.room_model.specs.Machine.{State, recorded_answer, may_record, answer, next}
use Rattle.room_model.specs.History.{Account, mark, called}
use Rattle.room.proofs.Histories.{consistent_called}
use Rattle.room_model.specs.World.{logs_of}
use Rattle.room_model.specs.Received.{is_refused, taken_of, received, got}
use Rattle.room_model.specs.Converges.{IsReceived, IsSiteOf, IsWorld}
use Rattle.replica_world.proofs.Settling.{In}
use Rattle.replica_world.proofs.Carrying.{IsAccepted, Carries, deliver-carries}
use Rattle.replica_world.proofs.Growing.{counted_others}
use Rattle.replica_world.proofs.Rooms.{Stood}
use Rattle.replica_world.proofs.Following.{held_of, Follows, room_there, log_there, next_is, marked_on, got_on}

-- what the site received by it
abbrev taken_in : Result Delivery Refusal → Operation → List Operation
taken_in o x = if is_refused (outcome_of o) then [] else x ∷ []

taken-accepted : (o : Result Delivery Refusal) (x y : Operation) → Among y (taken_in o x) → IsAccepted o × (y ≡ x)
taken-accepted (Ok (Took taken dropped)) x y (inl e) = (tt, e)
taken-accepted (Ok (Took taken dropped)) x y (inr a) = absurd a
taken-accepted (Ok Kept) x y (inl e) = (tt, e)
taken-accepted (Ok Kept) x y (inr a) = absurd a
taken-accepted (Ok Again) x y (inl e) = (tt, e)
taken-accepted (Ok Again) x y (inr a) = absurd a
taken-accepted (Err e) x y a = absurd a

accepted-taken : (o : Result Delivery Refusal) (x y : Operation) → IsAccepted o → y ≡ x → Among y (taken_in o x)
accepted-taken (Ok (Took taken dropped)) x y a e = inl e
accepted-taken (Ok Kept) x y a e = inl e
accepted-taken (Ok Again) x y a e = inl e
accepted-taken (Err r) x y a e = absurd a

received_carried : (logs : List SiteLog) (S : State) (x : Operation) (ops : List Operation) (d : Delivered)
    → Carries logs S.site S.log S.held x d → IsReceived S.log S.held ops → IsReceived d.log d.held (ops ++ taken_in d.outcome x)
received_carried logs S x ops d c r = record {
  stay = λ y k. stays y (Among-append y ops (taken_in d.outcome x) (Among-from_Contains (ops ++ taken_in d.outcome x) y k));
  logged = λ y k. comes y (inl (Among-from_Contains d.log y k));
  waiting = λ y k. comes y (inr (Among-from_Contains d.held y k));
}
  where
    words : (y : Operation) → In d.log d.held y → Contains d.log y ⊎ Contains d.held y
    words y (inl a) = inl (Contains-from_Among d.log y a)
    words y (inr a) = inr (Contains-from_Among d.held y a)

    old : (y : Operation) → Contains S.log y ⊎ Contains S.held y → In S.log S.held y
    old y (inl k) = inl (Among-from_Contains S.log y k)
    old y (inr k) = inr (Among-from_Contains S.held y k)

    stays : (y : Operation) → Among y ops ⊎ Among y (taken_in d.outcome x) → Contains d.log y ⊎ Contains d.held y
    stays y (inl a) = words y (c.stay y (old y (r.stay y (Contains-from_Among ops y a))))
    stays y (inr a) = let t = taken-accepted d.outcome x y a in words y (subst (In d.log d.held) (sym t.1) (c.there t.0))

    in_ops : (y : Operation) → In S.log S.held y → Among y ops
    in_ops y (inl a) = Among-from_Contains ops y (r.logged y (Contains-from_Among S.log y a))
    in_ops y (inr a) = Among-from_Contains ops y (r.waiting y (Contains-from_Among S.held y a))

    comes : (y : Operation) → In d.log d.held y → Contains (ops ++ taken_in d.outcome x) y
    comes y i = elim (c.come y i) [
      | inl k ↦ Contains-from_Among (ops ++ taken_in d.outcome x) y (Among-append_left y ops (taken_in d.outcome x) (in_ops y k))
      | inr t ↦ Contains-from_Among (ops ++ taken_in d.outcome x) y
          (Among-append_right y ops (taken_in d.outcome x) (accepted-taken d.outcome x y t.0 t.1))
    ]

abbrev pub put_one : Operation → Call
put_one x = Put (x ∷ [])

pub put-answer : (S : State) (x : Operation) → may_record S ≡ true
    → answer S (put_one x) ≡ replies.Put (outcome_of (deliver S.site S.log S.held x).outcome ∷ [])
put-answer S x e = ap (λ b. if b then recorded_answer S (put_one x) else replies.No HistoryFull) e

put-next : (S : State) (x : Operation) → may_record S ≡ true
    → next S (put_one x) ≡ record S {
      log = (deliver S.site S.log S.held x).log;
      held = (deliver S.site S.log S.held x).held;
      count =
          S.count + 1;
    }
put-next S x e = next_is S (put_one x) e

put-received : (S : State) (x : Operation) → may_record S ≡ true
    → received S (put_one x) ≡ taken_in (deliver S.site S.log S.held x).outcome x
put-received S x e = ap (taken_of (x ∷ [])) (put-answer S x e)

pub carry-carries : (world : List Account) → IsWorld world → (site : ℕ) (a : Account) → (s : Stood site world a) → (x : Operation)
    → Of (logs_of world) x → Carries (logs_of world) a.state.site a.state.log a.state.held x
    (deliver a.state.site a.state.log a.state.held x)
carry-carries world w site a s x o =
    let r : IsSiteOf (logs_of world) a = Each-at (IsSiteOf (logs_of world)) world a w.rooms (room_there site world a s) in
    deliver-carries (logs_of world) w.logs a.state.site a.state.log a.state.held
    (record { here = log_there site world a s; held_of = held_of (logs_of world) a r; settled = r.settled }) x o

pub carry-follows : (world : List Account) → IsWorld world → (site : ℕ) (a : Account) → (s : Stood site world a) → (t : ℕ) (x : Operation)
    → Of (logs_of world) x → may_record a.state ≡ true
    → t ≤ length a.history → mark a.history ≤ t → Follows (logs_of world) a (called a t (put_one x))
carry-follows world w site a s t x o e q l = record {
  site = ap (λ (S : State). S.site) n;
  more = c.more;
  log_is = ap (λ (S : State). S.log) n ∙ c.log_is;
  lawful = subst (λ (S : State). IsLawful S.log) (sym n) c.lawful;
  limit = subst (λ (S : State). length S.log ≤ 131072) (sym n) c.limit;
  own_or_of = λ y k. inr (c.log_of y (subst (Among y) (sym c.log_is) (Among-append_right y a.state.log c.more k)));
  counted = counted_others (length a.state.log + 1) a.state.site c.more c.others;
  consistent = consistent_called a t (put_one x) r.consistent e l (omega (arith, q, r.consistent.legal.limit))
      (subst (λ (S : State). IsLawful S.log) (sym n) c.lawful) (subst (λ (S : State). length S.log ≤ 131072) (sym n) c.limit);
  marked = marked_on a t (put_one x) e q;
  held = subst (λ (S : State). AreOf (logs_of world) S.held) (sym n) c.held_of;
  settled = subst (λ (S : State). (131072 ≤ length S.log) ⊎ NoneReady (clock_of S.log) S.held) (sym n) c.settled;
  received = subst (IsReceived (next a.state (put_one x)).log (next a.state (put_one x)).held)
      (sym (got_on (logs_of world) a t (put_one x) r e ∙ ap (λ l. got a ++ l) (put-received a.state x e)))
      (subst (λ (S : State). IsReceived S.log S.held (got a ++ taken_in d.outcome x)) (sym n)
      (received_carried (logs_of world) a.state x (got a) d c r.received));
}
  where
    r : IsSiteOf (logs_of world) a
    r = Each-at (IsSiteOf (logs_of world)) world a w.rooms (room_there site world a s)

    d : Delivered
    d = deliver a.state.site a.state.log a.state.held x

    c : Carries (logs_of world) a.state.site a.state.log a.state.held x d
    c = carry-carries world w site a s x o

    n : next a.state (put_one x) ≡ record a.state { log = d.log; held = d.held; count = a.state.count + 1 }
    n = put-next a.state x e
