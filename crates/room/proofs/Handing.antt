-- Operations that are handed over one after another.
use Rattle.std.proofs.Common.{◌≡◌, ℕ, zero, suc, ◌+◌, ◌-◌, ◌<◌, ◌≤◌, ◌⊎◌, inl, inr, Bool, true, false, Option, Some, None, Result, Ok, Err}
use Rattle.std.proofs.Common.{List, [], ◌∷◌, ◌++◌, length, drop, get_or, refl, ap, ◌∙◌, sym, arith, append_assoc, add-one, drop-cons}
use mathlib.Core.Path.{ap₂}
use Rattle.std.specs.Prelude.{nat_le, nat_lt, if◌then◌else◌, IfOk, IfErr, OnErr}
use Rattle.std.proofs.lemmas.List.{append-nil, length-append}
use Rattle.opid.specs.declared.refusal.Refusal.{Refusal}
use Rattle.opid.specs.declared.refusal.Refusal.TheVariants.{OwnSite, HoldFull, Memory}
use Rattle.opid.specs.Operations.{Operation}
use Rattle.opid.specs.Delivery.{clock_of, is_ready}
use Rattle.opid.specs.Held.{look_for}
use Rattle.opid.specs.Held.{first_ready, without_first_ready}
use Rattle.opid.specs.declared.delivery.Delivery.{Delivery}
use Rattle.opid.specs.declared.delivery.Delivery.TheVariants.{Took, Kept, Again}
use Rattle.opid.specs.Delivered.{refusal_of}
use Rattle.opid.specs.Delivered.{Settling, appended_or_dropped, taken_out, round_with, round, rounds, settle}
use Rattle.opid.specs.Delivered.{ReplicaState, Delivered, unchanged, hold, integrate, deliver_new, deliver_found, claims_site, deliver}
use Rattle.opid.specs.Delivered.{taken_by}
use Rattle.replica.proofs.Lawfully.{fewer}
use Rattle.room_model.specs.declared.outcome.Outcome.{Outcome}
use Rattle.room_model.specs.Deliveries.{Handed, outcome_of, hand_over}

-- ---- a log only grows

abbrev pub Extends : List Operation → List Operation → Type 0
Extends log longer = (more : List Operation) × (longer ≡ log ++ more)

pub Extends-refl : (log : List Operation) → Extends log log
Extends-refl log = ([], sym (append-nil log))

pub Extends-trans : (a b c : List Operation) → Extends a b → Extends b c → Extends a c
Extends-trans a b c (m, p) (n, q) = (m ++ n, q ∙ ap (λ l. l ++ n) p ∙ append_assoc a m n)

round-extends : (s : Settling) → Extends s.log (round s).log
round-extends s = by (nat_le 131072 (length s.log)) (first_ready (clock_of s.log) s.held)
  where
    appended : (r : Option Refusal) (x : Operation) → Extends s.log (appended_or_dropped r x (taken_out s)).log
    appended None x = (x ∷ [], refl)
    appended (Some e) x = Extends-refl s.log

    by : (b : Bool) (o : Option Operation) → Extends s.log (if b then s else round_with o s).log
    by true o = Extends-refl s.log
    by false None = Extends-refl s.log
    by false (Some x) = appended (refusal_of s.log x) x

rounds-extend : (n : ℕ) (s : Settling) → Extends s.log (rounds n s).log
rounds-extend zero s = Extends-refl s.log
rounds-extend (suc n) s = Extends-trans s.log (round s).log (rounds n (round s)).log (round-extends s) (rounds-extend n (round s))

hold-extends : (log held : List Operation) (x : Operation) → Extends log (hold log held x).log
hold-extends log held x = by (nat_lt (length held) 1024)
  where
    by : (b : Bool) → Extends log (if b then record { outcome = Ok Kept; log = log; held = held ++ x ∷ [] }
        else unchanged (Err HoldFull) log held).log
    by true = Extends-refl log
    by false = Extends-refl log

integrate-extends : (o : Option Refusal) (log held : List Operation) (x : Operation) → Extends log (integrate o log held x).log
integrate-extends (Some e) log held x = Extends-refl log
integrate-extends None log held x =
    Extends-trans log (log ++ x ∷ []) (integrate None log held x).log (x ∷ [], refl)
    (rounds-extend (length held) (record { log = log ++ x ∷ []; held = held; taken = 1; dropped = 0 }))

deliver_new-extends : (log held : List Operation) (x : Operation) → Extends log (deliver_new log held x).log
deliver_new-extends log held x = by (is_ready log x)
  where
    by : (b : Bool) → Extends log (if b then integrate (refusal_of log x) log held x else hold log held x).log
    by true = integrate-extends (refusal_of log x) log held x
    by false = hold-extends log held x

deliver_found-extends : (r : Result Bool Refusal) (log held : List Operation) (x : Operation) → Extends log (deliver_found r log held x).log
deliver_found-extends (Err e) log held x = Extends-refl log
deliver_found-extends (Ok true) log held x = Extends-refl log
deliver_found-extends (Ok false) log held x = deliver_new-extends log held x

deliver-extends : (site : ℕ) (log held : List Operation) (x : Operation) → Extends log (deliver site log held x).log
deliver-extends site log held x = by (claims_site site log x)
  where
    by : (b : Bool) → Extends log (if b then unchanged (Err OwnSite) log held else deliver_found (look_for x (log ++ held)) log held x).log
    by true = Extends-refl log
    by false = deliver_found-extends (look_for x (log ++ held)) log held x

pub hand_over-extends : (site : ℕ) (log held ops : List Operation) → Extends log (hand_over site log held ops).log
hand_over-extends site log held [] = Extends-refl log
hand_over-extends site log held (x ∷ ops) =
    Extends-trans log (deliver site log held x).log (hand_over site log held (x ∷ ops)).log (deliver-extends site log held x)
    (hand_over-extends site (deliver site log held x).log (deliver site log held x).held ops)

-- ---- what is refused changes nothing

hold-refused : (log held : List Operation) (x : Operation) (e : Refusal) → (hold log held x).outcome ≡ Err e
    → hold log held x ≡ unchanged (Err e) log held
hold-refused log held x e = by (nat_lt (length held) 1024)
  where
    by : (b : Bool) → (if b then record { outcome = Ok Kept; log = log; held = held ++ x ∷ [] }
        else unchanged (Err HoldFull) log held).outcome ≡ Err e
        → (if b then record { outcome = Ok Kept; log = log; held = held ++ x ∷ [] } else unchanged (Err HoldFull) log held)
        ≡ unchanged (Err e) log held
    by true h = cc
    by false h = ap (λ o. unchanged o log held) h

integrate-refused : (o : Option Refusal) (log held : List Operation) (x : Operation) (e : Refusal)
    → (integrate o log held x).outcome ≡ Err e → integrate o log held x ≡ unchanged (Err e) log held
integrate-refused (Some r) log held x e h = ap (λ o. unchanged o log held) h
integrate-refused None log held x e h = cc

deliver_new-refused : (log held : List Operation) (x : Operation) (e : Refusal) → (deliver_new log held x).outcome ≡ Err e
    → deliver_new log held x ≡ unchanged (Err e) log held
deliver_new-refused log held x e = by (is_ready log x)
  where
    by : (b : Bool) → (if b then integrate (refusal_of log x) log held x else hold log held x).outcome ≡ Err e
        → (if b then integrate (refusal_of log x) log held x else hold log held x) ≡ unchanged (Err e) log held
    by true = integrate-refused (refusal_of log x) log held x e
    by false = hold-refused log held x e

deliver_found-refused : (r : Result Bool Refusal) (log held : List Operation) (x : Operation) (e : Refusal)
    → (deliver_found r log held x).outcome ≡ Err e → deliver_found r log held x ≡ unchanged (Err e) log held
deliver_found-refused (Err r) log held x e h = ap (λ o. unchanged o log held) h
deliver_found-refused (Ok true) log held x e h = cc
deliver_found-refused (Ok false) log held x e h = deliver_new-refused log held x e h

deliver-refused : (site : ℕ) (log held : List Operation) (x : Operation) (e : Refusal) → (deliver site log held x).outcome ≡ Err e
    → deliver site log held x ≡ unchanged (Err e) log held
deliver-refused site log held x e = by (claims_site site log x)
  where
    by : (b : Bool) → (if b then unchanged (Err OwnSite) log held else deliver_found (look_for x (log ++ held)) log held x).outcome ≡ Err e
        → (if b then unchanged (Err OwnSite) log held else deliver_found (look_for x (log ++ held)) log held x) ≡ unchanged (Err e) log held
    by true h = ap (λ o. unchanged o log held) h
    by false h = deliver_found-refused (look_for x (log ++ held)) log held x e h

-- ---- how many are held

round-held : (s : Settling) → length (round s).held + (round s).taken ≤ length s.held + s.taken
round-held s = by (nat_le 131072 (length s.log)) (first_ready (clock_of s.log) s.held) refl
  where
    appended : (r : Option Refusal) (x : Operation) → length (without_first_ready (clock_of s.log) s.held) + 1 ≡ length s.held
        → length (appended_or_dropped r x (taken_out s)).held + (appended_or_dropped r x (taken_out s)).taken ≤ length s.held + s.taken
    appended None x e = omega (arith, e)
    appended (Some r) x e = omega (arith, e)

    by : (b : Bool) (o : Option Operation) → first_ready (clock_of s.log) s.held ≡ o
        → length (if b then s else round_with o s).held + (if b then s else round_with o s).taken ≤ length s.held + s.taken
    by true o e = omega arith
    by false None e = omega arith
    by false (Some x) e = appended (refusal_of s.log x) x (fewer (clock_of s.log) s.held x e)

rounds-held : (n : ℕ) (s : Settling) → length (rounds n s).held + (rounds n s).taken ≤ length s.held + s.taken
rounds-held zero s = omega arith
rounds-held (suc n) s = omega (arith, round-held s, rounds-held n (round s))

-- after a delivery, what is held and what was integrated is at most one more than what was held
abbrev Keeps : List Operation → Delivered → Type 0
Keeps held d = (k : Delivery) → d.outcome ≡ Ok k → length d.held + taken_by k ≤ length held + 1

hold-held : (log held : List Operation) (x : Operation) → Keeps held (hold log held x)
hold-held log held x = by (nat_lt (length held) 1024)
  where
    by : (b : Bool) → Keeps held (if b then record { outcome = Ok Kept; log = log; held = held ++ x ∷ [] }
        else unchanged (Err HoldFull) log held)
    by true k e = let same : k ≡ Kept = cc in omega (arith, ap taken_by same, length-append held (x ∷ []))
    by false k e = cc

integrate-held : (o : Option Refusal) (log held : List Operation) (x : Operation) → Keeps held (integrate o log held x)
integrate-held (Some r) log held x k e = cc
integrate-held None log held x k e =
    let s : Settling = record { log = log ++ x ∷ []; held = held; taken = 1; dropped = 0 } in
    let same : k ≡ Took (settle s).taken (settle s).dropped = cc in
    omega (arith, ap taken_by same, rounds-held (length held) s)

deliver_new-held : (log held : List Operation) (x : Operation) → Keeps held (deliver_new log held x)
deliver_new-held log held x = by (is_ready log x)
  where
    by : (b : Bool) → Keeps held (if b then integrate (refusal_of log x) log held x else hold log held x)
    by true = integrate-held (refusal_of log x) log held x
    by false = hold-held log held x

deliver_found-held : (r : Result Bool Refusal) (log held : List Operation) (x : Operation) → Keeps held (deliver_found r log held x)
deliver_found-held (Err r) log held x k e = cc
deliver_found-held (Ok true) log held x k e = let same : k ≡ Again = cc in omega (arith, ap taken_by same)
deliver_found-held (Ok false) log held x k e = deliver_new-held log held x k e

deliver-held : (site : ℕ) (log held : List Operation) (x : Operation) → Keeps held (deliver site log held x)
deliver-held site log held x = by (claims_site site log x)
  where
    by : (b : Bool) → Keeps held (if b then unchanged (Err OwnSite) log held else deliver_found (look_for x (log ++ held)) log held x)
    by true k e = cc
    by false k e = deliver_found-held (look_for x (log ++ held)) log held x k e

-- ---- one after another, as a loop does

-- what a delivery made of a replica: its outcome, and what is reserved for so many more
pub record Delivers (R T : ReplicaState) (x : Operation) (result : Result Delivery Refusal) : Type 0 where
  pub outcome : (deliver R.site R.log R.held x).outcome ≡ result
  pub site : T.site ≡ R.site
  pub log : T.log ≡ (deliver R.site R.log R.held x).log
  pub held : T.held ≡ (deliver R.site R.log R.held x).held
  pub reserved : (k : ℕ) → length R.held + suc k ≤ R.reserved → length T.held + k ≤ T.reserved

pub delivers : (R T : ReplicaState) (x : Operation) (result : Result Delivery Refusal)
    → IfOk result (λ d. (deliver R.site R.log R.held x).outcome ≡ Ok d)
    → IfOk result (λ d. T ≡ record R {
      log = (deliver R.site R.log R.held x).log;
      held = (deliver R.site R.log R.held x).held;
      reserved =
          R.reserved - taken_by d;
    })
    → IfErr result (λ e. ((deliver R.site R.log R.held x).outcome ≡ Err e) ⊎ ((e ≡ Memory) × (R.reserved ≤ length R.held)))
    → OnErr result (T ≡ R) → length R.held < R.reserved → Delivers R T x result
delivers R T x (Ok d) o n c e b = record {
  outcome = o;
  site = ap (λ (q : ReplicaState). q.site) n;
  log = ap (λ (q : ReplicaState). q.log) n;
  held = ap (λ (q : ReplicaState). q.held) n;
  reserved = λ k h. omega (
    arith,
    h,
    ap (λ (q : ReplicaState). length q.held) n,
    ap (λ (q : ReplicaState). q.reserved) n,
    deliver-held R.site R.log R.held x d o,
  );
}
delivers R T x (Err w) o n (inl c) e b = record {
  outcome = c;
  site = ap (λ (q : ReplicaState). q.site) e;
  log = ap (λ (q : ReplicaState). q.log) e ∙ sym (ap (λ (q : Delivered). q.log) (deliver-refused R.site R.log R.held x w c));
  held = ap (λ (q : ReplicaState). q.held) e ∙ sym (ap (λ (q : Delivered). q.held) (deliver-refused R.site R.log R.held x w c));
  reserved = λ k h. omega (arith, h, ap (λ (q : ReplicaState). length q.held) e, ap (λ (q : ReplicaState). q.reserved) e);
}
delivers R T x (Err w) o n (inr c) e b = absurd (omega (arith, c.1, b))

-- what was handed over before, and what is left
abbrev pub with_before : List Outcome → Handed → Handed
with_before before rest = record rest { outcomes = before ++ rest.outcomes }

pub handed_on : (R T : ReplicaState) (ops : List Operation) (n : ℕ) (d : Operation) (result : Result Delivery Refusal)
    (before after : List Outcome) (o : Outcome) (whole : Handed) → n < length ops
    → Delivers R T (get_or ops n d) result → o ≡ outcome_of result → after ≡ before ++ o ∷ []
    → with_before before (hand_over R.site R.log R.held (drop n ops)) ≡ whole
    → with_before after (hand_over T.site T.log T.held (drop (n + 1) ops)) ≡ whole
handed_on R T ops n d result before after o whole b s is pushed so_far =
    ap₂ (λ (os : List Outcome) (h : Handed). with_before os h)
    (pushed ∙ ap (λ (r : Outcome). before ++ r ∷ []) (is ∙ ap outcome_of (sym s.outcome))) state
    ∙ ap (λ (os : List Outcome). let h : Handed = record { outcomes = os; log = rest.log; held = rest.held } in h)
    (append_assoc before (outcome_of (deliver R.site R.log R.held x).outcome ∷ []) rest.outcomes)
    ∙ ap (λ (xs : List Operation). with_before before (hand_over R.site R.log R.held xs)) (sym (drop-cons ops n d b))
    ∙ so_far
  where
    x : Operation
    x = get_or ops n d

    rest : Handed
    rest = hand_over R.site (deliver R.site R.log R.held x).log (deliver R.site R.log R.held x).held (drop (suc n) ops)

    state : hand_over T.site T.log T.held (drop (n + 1) ops) ≡ rest
    state =
        ap (λ k. hand_over T.site T.log T.held (drop k ops)) (add-one n)
        ∙ ap (λ i. hand_over i T.log T.held (drop (suc n) ops)) s.site
        ∙ ap₂ (λ (l h : List Operation). hand_over R.site l h (drop (suc n) ops)) s.log s.held
