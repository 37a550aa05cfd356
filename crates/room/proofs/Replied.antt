-- What a submission is answered: at once, or when it was carried out or refused.
use Rattle.std.proofs.Common.{◌≡◌, ℕ, ◌+◌, inl, inr, Option, Some, None, Result, Ok, Err, List, ◌++◌, length, refl, ap, ◌∙◌, sym}
use Rattle.std.specs.Prelude.{IfOk}
use mathlib.Core.Path.{ap₂}
use Rattle.std.specs.declared.alloc.AllocError.{AllocError}
use Rattle.opid.specs.declared.refusal.Refusal.{Refusal}
use Rattle.opid.specs.Operations.{Operation}
use Rattle.opid.specs.Delivered.{ReplicaState}
use Rattle.opid.specs.declared.submission.Submission.TheVariants.{New, Repeat}
use Rattle.opid.specs.Sessions.{Outbox, after_accept}
use Rattle.room_model.specs.declared.call.Call.{Call}
use Rattle.room_model.specs.declared.reply.Reply.{Reply}
use Rattle.room_model.specs.declared.reply.Reply.TheVariants as replies
use Rattle.room_model.specs.Machine.{State, Finding, check, found_in_submission, accepted_answer, accepted_next, found_answer, found_next}
use Rattle.room.specs.Internal.Parts.{state_with, Does, reply_at_once, Submits, Accepts}

-- what a call is found to be tells what it is answered, and what it does
found : (S : State) (c : Call) (f : Finding) (reply : Reply) (T : State) → check S c ≡ f → reply ≡ found_answer S c f → T ≡ found_next S c f
    → (reply ≡ found_answer S c (check S c)) × (T ≡ found_next S c (check S c))
found S c f reply T e a n = (a ∙ ap (found_answer S c) (sym e), n ∙ ap (found_next S c) (sym e))

pub at_once : (R : ReplicaState) (outbox : Outbox) (c : Call) (f : Finding) (r : Option Refusal) (reply : Reply)
    → ((count : ℕ) → check (state_with R outbox count) c ≡ found_in_submission f r)
    → Some reply ≡ reply_at_once f → Does R outbox c reply R outbox
at_once R outbox c f r reply e h = record { answered = λ count. (go count f (e count) h).0; done = λ count. (go count f (e count) h).1 }
  where
    go : (count : ℕ) (f : Finding) → check (state_with R outbox count) c ≡ found_in_submission f r → Some reply ≡ reply_at_once f
        → (reply ≡ found_answer (state_with R outbox count) c (check (state_with R outbox count) c))
        × (state_with R outbox count ≡ found_next (state_with R outbox count) c (check (state_with R outbox count) c))
    go count (Err w) k h = found (state_with R outbox count) c (Err w) reply _ k (cc) refl
    go count (Ok (Repeat a b)) k h = found (state_with R outbox count) c (Ok (Repeat a b)) reply _ k (cc) refl
    go count (Ok New) k h = cc

pub carried : (R : ReplicaState) (outbox : Outbox) (c : Call) (f : Finding) (r : Option Refusal) (s : ℕ) (more : List Operation) (n : ℕ)
    (submitted : Result (ℕ × ℕ) Refusal) (T : ReplicaState)
    (result : Result Reply AllocError) (outbox' : Outbox)
    → ((count : ℕ) → check (state_with R outbox count) c ≡ found_in_submission f r)
    → ((count : ℕ) → accepted_answer (state_with R outbox count) c ≡ replies.Ok (length R.log) (length R.log + n))
    → ((count : ℕ) → accepted_next (state_with R outbox count) c
    ≡ state_with (record R { log = R.log ++ more }) (after_accept s (length R.log) (length R.log + n) outbox) count)
    → None ≡ reply_at_once f → Submits r submitted R more n T → Accepts s submitted outbox result outbox'
    → IfOk result (λ reply. Does R outbox c reply T outbox')
carried R outbox c f r s more n submitted T result outbox' e a t h k w = go f r submitted result e h k w
  where
    go : (f : Finding) (r : Option Refusal) (submitted : Result (ℕ × ℕ) Refusal) (result : Result Reply AllocError)
        → ((count : ℕ) → check (state_with R outbox count) c ≡ found_in_submission f r)
        → None ≡ reply_at_once f → Submits r submitted R more n T → Accepts s submitted outbox result outbox'
        → IfOk result (λ reply. Does R outbox c reply T outbox')
    go (Err x) r submitted result e h k w = cc
    go (Ok (Repeat x y)) r submitted result e h k w = cc
    go (Ok New) r submitted (Err why) e h k w = tt
    go (Ok New) (Some x) (Ok p) (Ok reply) e h k w = cc
    go (Ok New) None (Ok p) (Ok reply) e h k w =
        let reads : reply ≡ replies.Ok (length R.log) (length R.log + n) = w.0 ∙ ap (λ (q : ℕ × ℕ). replies.Ok q.0 q.1) k.1 in
        let sent : outbox' ≡ after_accept s (length R.log) (length R.log + n) outbox =
        w.1 ∙ ap (λ (q : ℕ × ℕ). after_accept s q.0 q.1 outbox) k.1 in
        let both : (count : ℕ) → (reply ≡ _) × (state_with T outbox' count ≡ _) = λ count.
        found (state_with R outbox count) c (Ok New) reply (state_with T outbox' count) (e count) (reads ∙ sym (a count))
        (ap (λ (o : Outbox). state_with T o count) sent ∙ k.2 count (after_accept s (length R.log) (length R.log + n) outbox)
        ∙ sym (t count)) in
        record { answered = λ count. (both count).0; done = λ count. (both count).1 }
    go (Ok New) None (Err x) (Ok reply) e h (inl q, m) w = cc
    go (Ok New) None (Err x) (Ok reply) e h (inr q, m) w = absurd (w.0 q.1)
    go (Ok New) (Some y) (Err x) (Ok reply) e h (inr q, m) w = cc
    go (Ok New) (Some y) (Err x) (Ok reply) e h (inl q, m) w =
        let same : reply ≡ replies.No y = w.1 ∙ (cc) in
        let both : (count : ℕ) → (reply ≡ _) × (state_with T outbox' count ≡ _) = λ count.
        found (state_with R outbox count) c (Err y) reply (state_with T outbox' count) (e count) same
        (ap₂ (λ (q : ReplicaState) (o : Outbox). state_with q o count) m w.2) in
        record { answered = λ count. (both count).0; done = λ count. (both count).1 }
