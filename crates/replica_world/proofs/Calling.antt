-- A call that is no put may follow.
use Rattle.std.proofs.Common.{◌≡◌, ℕ, ◌≤◌, true, None, List, [], ◌∷◌, ◌++◌, length, drop, refl, ap, ◌∙◌, sym, subst, arith, inl, inr, ◌⊎◌}
use Rattle.std.specs.Prelude.{Contains}
use Rattle.std.proofs.lemmas.List.{length-append}
use Rattle.opid.specs.Operations.{Operation}
use Rattle.opid.specs.Delivery.{clock_of}
use Rattle.opid.specs.Lawful.{IsLawful}
use Rattle.opid.proofs.Orders.{Among, Each-at, Among-append, Among-append_left, Among-append_right, Among-from_Contains}
use Rattle.opid.proofs.Orders.{Contains-from_Among}
use Rattle.opid.specs.Held.{NoneReady}
use Rattle.room_model.specs.declared.call.Call.{Call}
use Rattle.room_model.specs.declared.call.Call.TheVariants.{Put}
use Rattle.room_model.specs.Machine.{State, may_record, next}
use Rattle.room_model.specs.History.{Account, mark, called}
use Rattle.room.proofs.Histories.{consistent_called}
use Rattle.room_model.specs.World.{logs_of, puts}
use Rattle.room_model.specs.Received.{received, got}
use Rattle.room_model.specs.Converges.{IsReceived, IsSiteOf, IsWorld}
use Rattle.replica_world.proofs.Making.{Makes, next-makes}
use Rattle.replica_world.proofs.Waiting.{waits_on}
use Rattle.replica_world.proofs.Rooms.{log_of, Stood}
use Rattle.replica_world.proofs.Following.{held_of, Follows, room_there, log_there, marked_on, got_on}

drop-front : {X : Type 0} (xs ys : List X) → drop (length xs) (xs ++ ys) ≡ ys
drop-front [] [] = refl
drop-front [] (y ∷ ys) = refl
drop-front (x ∷ xs) ys = drop-front xs ys

received_own : (S : State) (c : Call) → puts c ≡ None → (m : Makes S (next S c)) → received S c ≡ m.made
received_own S (Put ops) p m = cc
received_own S other p m = ap (drop (length S.log)) m.log_is ∙ drop-front S.log m.made

-- more is received, and stands behind the log
received_more : (log held ops more : List Operation) → IsReceived log held ops → IsReceived (log ++ more) held (ops ++ more)
received_more log held ops more r = record {
  stay = λ x c. stays x (Among-append x ops more (Among-from_Contains (ops ++ more) x c));
  logged = λ x c. Contains-from_Among (ops ++ more) x (logged x (Among-append x log more (Among-from_Contains (log ++ more) x c)));
  waiting = λ x c. Contains-from_Among (ops ++ more) x (Among-append_left x ops more (Among-from_Contains ops x (r.waiting x c)));
}
  where
    stays : (x : Operation) → Among x ops ⊎ Among x more → Contains (log ++ more) x ⊎ Contains held x
    stays x (inr a) = inl (Contains-from_Among (log ++ more) x (Among-append_right x log more a))
    stays x (inl a) = elim (r.stay x (Contains-from_Among ops x a)) [
      | inl c ↦ inl (Contains-from_Among (log ++ more) x (Among-append_left x log more (Among-from_Contains log x c)))
      | inr c ↦ inr c
    ]

    logged : (x : Operation) → Among x log ⊎ Among x more → Among x (ops ++ more)
    logged x (inl a) = Among-append_left x ops more (Among-from_Contains ops x (r.logged x (Contains-from_Among log x a)))
    logged x (inr a) = Among-append_right x ops more a

pub call-follows : (world : List Account) → IsWorld world → (site : ℕ) (a : Account) → (s : Stood site world a) → (t : ℕ) (c : Call)
    → puts c ≡ None → may_record a.state ≡ true
    → t ≤ length a.history → mark a.history ≤ t → Follows (logs_of world) a (called a t c)
call-follows world w site a s t c p e q l = record {
  site = m.site;
  more = m.made;
  log_is = m.log_is;
  lawful = m.lawful;
  limit = m.limit;
  own_or_of = λ y k. inl (Each-at (λ z. z.site ≡ a.state.site) m.made y m.own k);
  counted = m.counted;
  consistent = consistent_called a t c r.consistent e l (omega (arith, q, r.consistent.legal.limit)) m.lawful m.limit;
  marked = marked_on a t c e q;
  held = λ y k. held_of (logs_of world) a r y (subst (Among y) m.held k);
  settled = subst (λ held. (131072 ≤ length (next a.state c).log) ⊎ NoneReady (clock_of (next a.state c).log) held) (sym m.held)
      (subst (λ l. (131072 ≤ length l) ⊎ NoneReady (clock_of l) a.state.held) (sym m.log_is) (waits r.settled));
  received = subst (IsReceived (next a.state c).log (next a.state c).held)
      (sym (got_on (logs_of world) a t c r e ∙ ap (λ l. got a ++ l) (received_own a.state c p m)))
      (subst (λ held. IsReceived (next a.state c).log held (got a ++ m.made)) (sym m.held)
      (subst (λ l. IsReceived l a.state.held (got a ++ m.made)) (sym m.log_is)
      (received_more a.state.log a.state.held (got a) m.made r.received)));
}
  where
    r : IsSiteOf (logs_of world) a
    r = Each-at (IsSiteOf (logs_of world)) world a w.rooms (room_there site world a s)

    m : Makes a.state (next a.state c)
    m = next-makes a.state c (record {
      site = r.consistent.site;
      lawful = Each-at (λ b. IsLawful b.log) (logs_of world) (log_of a) (w.logs).lawful (log_there site world a s);
      limit = Each-at (λ b. length b.log ≤ 131072) (logs_of world) (log_of a) (w.logs).limit (log_there site world a s);
    }) p

    waits : (131072 ≤ length a.state.log) ⊎ NoneReady (clock_of a.state.log) a.state.held
        → (131072 ≤ length (a.state.log ++ m.made)) ⊎ NoneReady (clock_of (a.state.log ++ m.made)) a.state.held
    waits (inl f) = inl (omega (arith, f, length-append a.state.log m.made))
    waits (inr n) = inr (waits_on (logs_of world) w.logs a.state.site a.state.log
        (log_there site world a s) r.consistent.site m.made m.own a.state.held (held_of (logs_of world) a r) n)
