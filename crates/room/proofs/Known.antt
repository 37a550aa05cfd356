-- What is known of a session: it is known from its join on, and is sent ever more, but no more than the log has.
use Rattle.std.proofs.Common.{◌≡◌, ℕ, ◌+◌, ◌<◌, ◌≤◌, Bool, true, false, cond, Option, Some, None, Ok, Err, List, [], ◌∷◌, ◌++◌, length}
use Rattle.std.proofs.Common.{refl, ap, ◌∙◌, sym, subst, arith, append_assoc, nat_eq}
use Rattle.std.specs.Prelude.{min, MatchOption, if◌then◌else◌}
use Rattle.std.specs.List.{AllByRecursion as Each}
use Rattle.std.proofs.lemmas.List.{length-append}
use Rattle.opid.specs.Operations.{Operation}
use Rattle.opid.specs.Places.{element_count}
use Rattle.opid.specs.declared.submission.Submission.TheVariants.{New, Repeat}
use Rattle.opid.specs.Sessions.{Session, session_with, with_accepted, sent_to}
use Rattle.opid.specs.Sessions.{joined}
use Rattle.room_model.specs.declared.call.Call.{Call}
use Rattle.room_model.specs.declared.call.Call.TheVariants.{Join, Ins, Del, Pull, Leave}
use Rattle.room_model.specs.Machine.{State, Finding, counts_units, check, accepted_next, found_next, may_record}
use Rattle.room_model.specs.Machine.{counted, recorded_next, next}
use Rattle.room_model.specs.History.{state_of}
use Rattle.room_model.specs.Convergence.{or_before, last_known}
use Rattle.room.proofs.Histories.{next-extends}
use Rattle.room.proofs.Handing.{Extends, Extends-refl}
use Rattle.room.proofs.Running.{within_max, IsWithin, IsRunning, IfThere, IfThere-changed, IfThere-without}
use Rattle.room.proofs.Running.{IfThere-joined, next-running}

-- session s, which is known so, was sent at least as much, and counts as it did
abbrev pub Descends : Session → Session → Type 0
Descends w u = (u.first ≡ w.first) × (w.sent ≤ u.sent) × (u.units ≡ w.units)

-- ---- a log only grows

pub state_of-extends : (S : State) (h : List (ℕ × Call)) → Extends S.log (state_of S h).log
state_of-extends S [] = Extends-refl S.log
state_of-extends S (e ∷ h) = go (next-extends S e.1) (state_of-extends (next S e.1) h)
  where
    go : Extends S.log (next S e.1).log → Extends (next S e.1).log (state_of (next S e.1) h).log
        → Extends S.log (state_of (next S e.1) h).log
    go (m, p) (n, q) = (m ++ n, q ∙ ap (λ l. l ++ n) p ∙ append_assoc S.log m n)

-- ---- a session that is known

-- what is there of session s descends from w, and no other session gets its number
abbrev Since : ℕ → Session → State → Type 0
Since s w S = (s < S.outbox.next_number) × IfThere s S.outbox.sessions (Descends w)

accepted-since : (S : State) (c : Call) (s : ℕ) (w : Session) → IsRunning S → Since s w S → Since s w (accepted_next S c)
accepted-since S (Join b) s w r h =
    (omega (arith, h.0), IfThere-joined (Descends w) s (joined S.outbox.next_number (length S.log) b) S.outbox.sessions h.0 h.1)
accepted-since S (Ins t n v k x) s w r h = (
  h.0,
  IfThere-changed (Descends w) s t
      (with_accepted (length S.log) (length S.log + length x)) S.outbox.sessions (λ u. refl) (λ u d. d) h.1,
)
accepted-since S (Del t n v k c) s w r h = (
  h.0,
  IfThere-changed (Descends w) s t
      (with_accepted (length S.log) (length S.log + element_count (counts_units t S.outbox) S.log v k c)) S.outbox.sessions
      (λ u. refl) (λ u d. d) h.1,
)
accepted-since S (Pull t have most) s w r h =
    let to = min (have + most) (length S.log) in (
      h.0,
      IfThere-changed (Descends w) s t (sent_to to) S.outbox.sessions (λ u. refl)
          (λ u d. (d.0, within_max w.sent u.sent to d.1, d.2)) h.1,
    )
accepted-since S (Leave t) s w r h = (h.0, IfThere-without (Descends w) s t 0 S.outbox.next_number S.outbox.sessions r.numbered h.1)
accepted-since S other s w r h = h

found-since : (S : State) (c : Call) (f : Finding) (s : ℕ) (w : Session) → IsRunning S → Since s w S → Since s w (found_next S c f)
found-since S c (Err e) s w r h = h
found-since S c (Ok (Repeat a b)) s w r h = h
found-since S c (Ok New) s w r h = accepted-since S c s w r h

next-since : (S : State) (c : Call) (s : ℕ) (w : Session) → IsRunning S → Since s w S → Since s w (next S c)
next-since S c s w r h = by (may_record S)
  where
    by : (b : Bool) → Since s w (if b then counted (recorded_next S c) else S)
    by true = found-since S c (check S c) s w r h
    by false = h

or_before-known : (w : Session) (now before : Option Session) → MatchOption now (Unit {0}) (Descends w) → MatchOption before ⊥ (Descends w)
    → MatchOption (or_before now before) ⊥ (Descends w)
or_before-known w (Some u) before h k = h
or_before-known w None before h k = k

stays_known : (S : State) (h : List (ℕ × Call)) (s : ℕ) (w : Session) (before : Option Session) → IsRunning S → Since s w S
    → MatchOption before ⊥ (Descends w) → MatchOption (last_known s S h before) ⊥ (Descends w)
stays_known S [] s w before r k b = or_before-known w (session_with s S.outbox.sessions) before k.1 b
stays_known S (e ∷ h) s w before r k b =
    stays_known (next S e.1) h s w (or_before (session_with s S.outbox.sessions) before) (next-running S e.1 r) (next-since S e.1 s w r k)
    (or_before-known w (session_with s S.outbox.sessions) before k.1 b)

there-known : (w : Session) (now before : Option Session) → now ≡ Some w → MatchOption (or_before now before) ⊥ (Descends w)
there-known w now before e = subst (λ o. MatchOption (or_before o before) ⊥ (Descends w)) (sym e) (refl, omega arith, refl)

there-since : (S : State) (s : ℕ) (w : Session) → s < S.outbox.next_number → session_with s S.outbox.sessions ≡ Some w → Since s w S
there-since S s w b e = (b, subst (λ o. MatchOption o (Unit {0}) (Descends w)) (sym e) (refl, omega arith, refl))

-- a session that is there is known from then on
pub known_since : (S : State) (h : List (ℕ × Call)) (s : ℕ) (w : Session) (before : Option Session) → IsRunning S → s < S.outbox.next_number
    → session_with s S.outbox.sessions ≡ Some w
    → MatchOption (last_known s S h before) ⊥ (Descends w)
known_since S [] s w before r b e = there-known w (session_with s S.outbox.sessions) before e
known_since S (x ∷ h) s w before r b e =
    stays_known (next S x.1) h s w (or_before (session_with s S.outbox.sessions) before) (next-running S x.1 r)
    (next-since S x.1 s w r (there-since S s w b e)) (there-known w (session_with s S.outbox.sessions) before e)

-- a session that is there is among those that the rule speaks of
pub there-holds : (P : Session → Type 0) (s : ℕ) (ws : List Session) (w : Session) → Each P ws → session_with s ws ≡ Some w → P w
there-holds P s [] w h e = cc
there-holds P s (v ∷ ws) w h e = by (nat_eq s v.number) e (there-holds P s ws w h.1)
  where
    by : (d : Bool) → cond d (Some v) (session_with s ws) ≡ Some w → (session_with s ws ≡ Some w → P w) → P w
    by true q ih = let same : v ≡ w = cc in subst P same h.0
    by false q ih = ih q

-- ---- what a session was sent

-- a session that is known was sent no more than so many versions
abbrev pub IsSent : ℕ → Option Session → Type 0
IsSent n o = MatchOption o (Unit {0}) (λ w. w.sent ≤ n)

sent-within : (s n : ℕ) (ws : List Session) (o : Option Session) → Each (IsWithin n) ws → session_with s ws ≡ o → IsSent n o
sent-within s n ws None h e = tt
sent-within s n ws (Some w) h e = (there-holds (IsWithin n) s ws w h e).1

or_before-sent : (n : ℕ) (now before : Option Session) → IsSent n now → IsSent n before → IsSent n (or_before now before)
or_before-sent n (Some w) before h k = h
or_before-sent n None before h k = k

sent-longer : (n m : ℕ) (o : Option Session) → n ≤ m → IsSent n o → IsSent m o
sent-longer n m None b h = tt
sent-longer n m (Some w) b h = omega (arith, b, h)

longer : (S : State) (c : Call) → length S.log ≤ length (next S c).log
longer S c = let on : Extends S.log (next S c).log =
    next-extends S c in omega (arith, ap (λ (l : List Operation). length l) on.1, length-append S.log on.0)

-- no session was sent more than the log has
pub known-sent : (s : ℕ) (S : State) (h : List (ℕ × Call)) (before : Option Session) → IsRunning S → IsSent (length S.log) before
    → IsSent (length (state_of S h).log) (last_known s S h before)
known-sent s S [] before r k =
    or_before-sent (length S.log) (session_with s S.outbox.sessions) before
    (sent-within s (length S.log) S.outbox.sessions (session_with s S.outbox.sessions) r.within refl) k
known-sent s S (e ∷ h) before r k =
    let known : Option Session = or_before (session_with s S.outbox.sessions) before in
    known-sent s (next S e.1) h known (next-running S e.1 r)
    (sent-longer (length S.log) (length (next S e.1).log) known (longer S e.1)
    (or_before-sent (length S.log) (session_with s S.outbox.sessions) before
    (sent-within s (length S.log) S.outbox.sessions (session_with s S.outbox.sessions) r.within refl) k))
