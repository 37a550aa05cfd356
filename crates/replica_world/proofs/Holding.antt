-- What follows of a world, how it begins, and what it answers.
use Rattle.std.proofs.Common.{◌≡◌, ◌≢◌, ℕ, ◌+◌, ◌<◌, ◌≤◌, zero, suc, Bool, true, false, not, Option, Some, None, Result, Ok, Err, List, []}
use Rattle.std.proofs.Common.{◌∷◌, length, map, filter, refl, ap, ◌∙◌, sym, subst, arith, inl, inr, ◌⊎◌}
use mathlib.Core.Path.{ap₂}
use Rattle.std.specs.Prelude.{Contains, if◌then◌else◌, slice_get, cond}
use Rattle.std.specs.List.{AllByRecursion as Each, list_any}
use Rattle.std.proofs.lemmas.Bool.{or_cases, or_left, or_right}
use Rattle.std.proofs.lemmas.List.Folds.{list_any-append}
use Rattle.opid.specs.declared.stamp.Stamp.{Stamp}
use Rattle.opid.specs.declared.refusal.Refusal.{Refusal}
use Rattle.opid.specs.declared.refusal.Refusal.TheVariants.{HistoryFull}
use Rattle.opid.specs.Stamps.{is_same}
use Rattle.opid.specs.Operations.{Operation, Insertion, targets_of, targets, is_deleted}
use Rattle.opid.specs.Delivery.{clock_of, is_ready}
use Rattle.opid.specs.Tree.{all}
use Rattle.opid.specs.Reading.{reading}
use Rattle.opid.specs.Lawful.{IsLawful, IsPart}
use Rattle.opid.specs.Strong.{SiteLog, SitesDiffer, AreCountedFrom, IsAtHome, IsWhole}
use Rattle.opid.proofs.Logs.{IsSound-lawful}
use Rattle.opid.proofs.Orders.{Among, Each-at, Each-by, Parts, Among-from_Contains, Contains-from_Among, all-same}
use Rattle.opid.proofs.Worlds.{Of}
use Rattle.opid.proofs.Merging.{one_order}
use Rattle.opid.proofs.Whole.{whole_got}
use Rattle.opid.specs.Held.{NoneReady}
use Rattle.opid.specs.declared.delivery.Delivery.{Delivery}
use Rattle.opid.specs.declared.delivery.Delivery.TheVariants.{Took, Kept, Again}
use Rattle.opid.specs.Delivered.{deliver}
use Rattle.room_model.specs.Deliveries.{outcome_of}
use Rattle.room_model.specs.Machine.{empty_room, recorded_answer, may_record, answer}
use Rattle.room_model.specs.declared.reply.Reply.TheVariants as replies
use Rattle.room_model.specs.Convergence.{EditorsConverge, EditorsKeepUp}
use Rattle.room.proofs.Histories.{consistent_over}
use Rattle.room.proofs.Converging.{room_converges}
use Rattle.room.proofs.KeepingUp.{room_keeps_up}
use Rattle.room.proofs.Intentions.{keeps_intentions, only_grows}
use Rattle.room_model.specs.History.{Account, IsConsistent, account_over}
use Rattle.room_model.specs.Intention.{KeepsIntentions, OnlyGrows}
use Rattle.room_model.specs.declared.event.Event.{Event}
use Rattle.room_model.specs.declared.event.Event.TheVariants as events
use Rattle.room_model.specs.World.{room_of, logs_of, carry_of, carry_to, step, empty_rooms}
use Rattle.room_model.specs.Carried.{IsWithoutLoss, TellsNoLoss, TellsCarried, LosesNothing}
use Rattle.room_model.specs.Received.{got}
use Rattle.room_model.specs.Converges.{IsSiteOf, IsWorld, ReadTheSame, Converges}
use Rattle.replica_world.proofs.Settling.{site_log}
use Rattle.replica_world.proofs.Carrying.{IsCarried, Carries}
use Rattle.replica_world.proofs.Rooms.{log_of, stood}
use Rattle.replica_world.proofs.Following.{held_of, log_there}
use Rattle.replica_world.proofs.Delivering.{put_one, put-answer, carry-carries}
use Rattle.replica_world.proofs.Stepping.{in_log_at}

-- ---- what follows of a world

log_in : (world : List Account) (a : Account) → Among a world → Among (log_of a) (logs_of world)
log_in [] a i = absurd i
log_in (b ∷ world) a (inl e) = inl (ap log_of e)
log_in (b ∷ world) a (inr i) = inr (log_in world a i)

whole : (world : List Account) → IsWorld world → (a : Account) → Among a world → length a.state.log < 131072 → IsWhole (got a) a.state.log
whole world w a i f = whole_got (logs_of world) (w.logs).lawful (w.logs).world (got a) a.state.log a.state.held (record {
  lawful = Each-at (λ b. IsLawful b.log) (logs_of world) (log_of a) (w.logs).lawful (log_in world a i);
  of = λ y k. of y ((r.received).stay y (Contains-from_Among (got a) y k));
  logged = λ y k. Among-from_Contains (got a) y ((r.received).logged y (Contains-from_Among a.state.log y k));
  got_is = λ y k. words y ((r.received).stay y (Contains-from_Among (got a) y k));
  waiting = waiting r.settled;
})
  where
    r : IsSiteOf (logs_of world) a
    r = Each-at (IsSiteOf (logs_of world)) world a w.rooms i

    words : (y : Operation) → Contains a.state.log y ⊎ Contains a.state.held y → Among y a.state.log ⊎ Among y a.state.held
    words y (inl k) = inl (Among-from_Contains a.state.log y k)
    words y (inr k) = inr (Among-from_Contains a.state.held y k)

    of : (y : Operation) → Contains a.state.log y ⊎ Contains a.state.held y → Of (logs_of world) y
    of y (inl k) = (log_of a, log_in world a i, Among-from_Contains a.state.log y k)
    of y (inr k) = held_of (logs_of world) a r y (Among-from_Contains a.state.held y k)

    waiting : (131072 ≤ length a.state.log) ⊎ NoneReady (clock_of a.state.log) a.state.held
        → Each (λ y. is_ready a.state.log y ≡ false) a.state.held
    waiting (inl full) = absurd (omega (arith, f, full))
    waiting (inr n) = n

-- ---- logs with the same operations read the same

deleted_by : (ops : List Operation) (s : Stamp) → is_deleted ops s ≡ true
    → (x : Operation) × Among x ops × (list_any (λ t. is_same s t) (targets_of x.kind) ≡ true)
deleted_by [] s e = cc
deleted_by (x ∷ ops) s e = go (or_cases _ _ (sym (list_any-append (λ (t : Stamp). is_same s t) (targets_of x.kind) (targets ops)) ∙ e))
    (deleted_by ops s)
  where
    go : (list_any (λ t. is_same s t) (targets_of x.kind) ≡ true) ⊎ (list_any (λ t. is_same s t) (targets ops) ≡ true)
        → (is_deleted ops s ≡ true → (y : Operation) × Among y ops × (list_any (λ t. is_same s t) (targets_of y.kind) ≡ true))
        → (y : Operation) × ((y ≡ x) ⊎ Among y ops) × (list_any (λ t. is_same s t) (targets_of y.kind) ≡ true)
    go (inl h) ih = (x, inl refl, h)
    go (inr h) ih = let r = ih h in (r.0, inr r.1, r.2)

by_deleted : (ops : List Operation) (s : Stamp) (x : Operation) → Among x ops → list_any (λ t. is_same s t) (targets_of x.kind) ≡ true
    → is_deleted ops s ≡ true
by_deleted [] s x i e = absurd i
by_deleted (y ∷ ops) s x (inl q) e = list_any-append (λ (t : Stamp). is_same s t) (targets_of y.kind) (targets ops)
    ∙ or_left _ _ (subst (λ (z : Operation). list_any (λ t. is_same s t) (targets_of z.kind) ≡ true) q e)
by_deleted (y ∷ ops) s x (inr i) e = list_any-append (λ (t : Stamp). is_same s t) (targets_of y.kind) (targets ops)
    ∙ or_right (list_any (λ t. is_same s t) (targets_of y.kind)) _ (by_deleted ops s x i e)

deleted-part : (part whole : List Operation) → Parts part whole → (s : Stamp) → is_deleted part s ≡ true → is_deleted whole s ≡ true
deleted-part part whole h s e = let d = deleted_by part s e in by_deleted whole s d.0 (h d.0 d.1) d.2

same_truth : (b c : Bool) → (b ≡ true → c ≡ true) → (c ≡ true → b ≡ true) → b ≡ c
same_truth true c f g = sym (f refl)
same_truth false true f g = g refl
same_truth false false f g = refl

filter-agree : (p q : Insertion → Bool) (xs : List Insertion) → ((x : Insertion) → p x ≡ q x) → filter p xs ≡ filter q xs
filter-agree p q [] h = refl
filter-agree p q (x ∷ xs) h = ap₂ (λ b r. cond b (x ∷ r) r) (h x) (filter-agree p q xs h)

pub same_reading : (a b : List Operation) → IsLawful a → IsLawful b → Parts a b → Parts b a → reading a ≡ reading b
same_reading a b l m f g =
    ap (map (λ (x : Insertion). x.ch))
    (filter-agree (λ x. not (is_deleted a x.stamp)) (λ x. not (is_deleted b x.stamp)) (all a)
    (λ x. ap not (same_truth (is_deleted a x.stamp) (is_deleted b x.stamp) (deleted-part a b f x.stamp) (deleted-part b a g x.stamp)))
    ∙ ap (filter (λ x. not (is_deleted b x.stamp))) (all-same a b (IsSound-lawful a l) (IsSound-lawful b m) (part a b f) (part b a g)))
  where
    part : (c d : List Operation) → Parts c d → IsPart c d
    part c d h x k = Contains-from_Among d x (h x (Among-from_Contains c x k))

-- what both received whole is in both
whole_in : (got_a got_b a b : List Operation) → IsWhole got_a a → IsWhole got_b b → IsPart got_a got_b → Parts a b
whole_in got_a got_b a b v w h x i =
    let k = v.only x (Contains-from_Among a x i) in
    Among-from_Contains b x (w.has x (h x k.0) (λ site n c d e. let y = k.1 site n c d e in (y.0, h y.0 y.1, y.2, y.3)))

same : (world : List Account) → IsWorld world → ReadTheSame world
same world w a b i j f g h k =
    let here : Among a world = Among-from_Contains world a i in
    let there : Among b world = Among-from_Contains world b j in
    let v : IsWhole (got a) a.state.log = whole world w a here f in
    let u : IsWhole (got b) b.state.log = whole world w b there g in
    same_reading a.state.log b.state.log
    (Each-at (λ c. IsLawful c.log) (logs_of world) (log_of a) (w.logs).lawful (log_in world a here))
    (Each-at (λ c. IsLawful c.log) (logs_of world) (log_of b) (w.logs).lawful (log_in world b there))
    (whole_in (got a) (got b) a.state.log b.state.log v u h) (whole_in (got b) (got a) b.state.log a.state.log u v k)

-- Every world converges.
pub world_converges : (world : List Account) → IsWorld world → Converges world
world_converges world w = record {
  consistent = Each-by IsConsistent world room;
  one_order = one_order (logs_of world) (w.logs).lawful ((w.logs).world).at_home;
  whole = Each-by (λ a. length a.state.log < 131072 → IsWhole (got a) a.state.log) world (λ a i f. whole world w a i f);
  same = same world w;
  editors_converge = Each-by EditorsConverge world (λ a i. room_converges a (room a i));
  editors_keep_up = Each-by EditorsKeepUp world (λ a i. room_keeps_up a (room a i));
  keeps_intentions = Each-by KeepsIntentions world (λ a i. keeps_intentions a (room a i));
  only_grows = Each-by OnlyGrows world (λ a i. only_grows a (room a i));
}
  where
    room : (a : Account) → Among a world → IsConsistent a
    room a i = (Each-at (IsSiteOf (logs_of world)) world a w.rooms i).consistent

-- ---- the beginning

each_empty : (P : SiteLog → Type 0) (site n : ℕ) → ((i : ℕ) → site ≤ i → i < site + n → P (site_log i []))
    → Each P (logs_of (empty_rooms site n))
each_empty P site zero f = tt
each_empty P site (suc n) f = (
  f site (omega arith) (omega arith),
  each_empty P (site + 1) n (λ i a b. f i (omega (arith, a)) (omega (arith, b))),
)

each_room : (P : Account → Type 0) (site n : ℕ) → ((i : ℕ) → site ≤ i → i < site + n → P (account_over (empty_room i)))
    → Each P (empty_rooms site n)
each_room P site zero f = tt
each_room P site (suc n) f = (
  f site (omega arith) (omega arith),
  each_room P (site + 1) n (λ i a b. f i (omega (arith, a)) (omega (arith, b))),
)

differ : (site n : ℕ) → SitesDiffer (logs_of (empty_rooms site n))
differ site zero = tt
differ site (suc n) = (each_empty (λ b. site ≢ b.site) (site + 1) n (λ i a b e. absurd (omega (arith, a, e))), differ (site + 1) n)

nothing : (x : Operation) → Contains [] x → ⊥
nothing x k = Among-from_Contains [] x k

pub begins : (n : ℕ) → n ≤ 32 → IsWorld (empty_rooms 0 n)
begins n b = record {
  logs = record {
    lawful = each_empty (λ a. IsLawful a.log) 0 n (λ i c d. tt);
    world = record {
      at_home = record { sites = differ 0 n; home = each_empty (λ a. Each (IsAtHome (logs_of (empty_rooms 0 n))) a.log) 0 n (λ i c d. tt) };
      counted = each_empty (λ a. AreCountedFrom 1 a.site a.log) 0 n (λ i c d. tt);
    };
    limit = each_empty (λ a. length a.log ≤ 131072) 0 n (λ i c d. omega arith);
  };
  rooms = each_room (IsSiteOf (logs_of (empty_rooms 0 n))) 0 n (λ i c d. record {
    consistent = consistent_over i [] (omega (arith, b, d)) tt (omega arith);
    marked = omega arith;
    held = λ x k. absurd (nothing x k);
    settled = inr tt;
    received = record { stay = λ x k. inl k; logged = λ x k. k; waiting = λ x k. absurd (nothing x k) };
  });
}

-- ---- what is answered to what is carried

told : (o : Result Delivery Refusal) → IsCarried o → IsWithoutLoss (outcome_of o)
told (Ok (Took taken dropped)) h = h
told (Ok Kept) h = tt
told (Ok Again) h = tt
told (Err e) h = h

carried-tells : (world : List Account) → IsWorld world → (start to n : ℕ) (o p : Option Account) → room_of start world ≡ o
    → room_of to world ≡ p → TellsCarried (carry_to to o p n world).reply
carried-tells world w start to n None p e f = inl refl
carried-tells world w start to n (Some a) None e f = inl refl
carried-tells world w start to n (Some a) (Some b) e f = go (slice_get a.state.log n) refl
  where
    go : (o : Option Operation) → slice_get a.state.log n ≡ o → TellsCarried (carry_of to b o world).reply
    go None q = inr refl
    go (Some x) q = by (may_record b.state) refl
      where
        c : Carries (logs_of world) b.state.site b.state.log b.state.held x (deliver b.state.site b.state.log b.state.held x)
        c = carry-carries world w to b (stood to world b f) x
            (log_of a, log_there start world a (stood start world a e), in_log_at a.state.log n x q)

        by : (t : Bool) → may_record b.state ≡ t → TellsNoLoss (answer b.state (put_one x))
        by true m = subst TellsNoLoss (sym (put-answer b.state x m))
            (told (deliver b.state.site b.state.log b.state.held x).outcome c.outcome, tt)
        by false m = subst TellsNoLoss (sym (ap (λ t. if t then recorded_answer b.state (put_one x) else replies.No HistoryFull) m)) refl

pub loses_nothing : (world : List Account) → IsWorld world → (e : Event) → LosesNothing e (step world e).reply
loses_nothing world w (events.Call site c) = tt
loses_nothing world w (events.Carry start n to) = carried-tells world w start to n (room_of start world) (room_of to world) refl refl
loses_nothing world w (events.Fork new start n) = tt
