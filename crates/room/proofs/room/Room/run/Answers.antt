use Rattle.std.proofs.Common.{refl, ◌≡◌, ◌+◌, ◌^◌, ◌<◌, ◌≤◌, ◌++◌, ◌∷◌, [], ℕ, length, take, get_or, List, ap, ◌∙◌, subst, sym}
use Rattle.std.proofs.Common.{append_assoc}
use mathlib.Core.Path.{ap₂}
use Rattle.std.proofs.lemmas.List.{take_more}
use Rattle.room_model.specs.declared.call.Call.{Call}
use Rattle.room_model.specs.declared.reply.Reply.{Reply}
use Rattle.room_model.specs.Machine.{State, answer}
use Rattle.room_model.specs.History.{Account, mark, called, ran, answers, after}
use Rattle.room.proofs.Histories.{mark-within, ran-push, ran-state, answers-push}
use Rattle.room.proofs.Intentions.{keeps_intentions}
use Rattle.room.proofs.room.Room.run.Goals as goal

-- one more call
goes_on : (first room new : Account) (calls : List Call) (i : ℕ) (c copy : Call) (reply : Reply) (before replies more : List Reply) (t : ℕ)
    → i < length calls → c ≡ get_or calls i c → copy ≡ c
    → mark room.history ≤ 2 ^ 61 + length room.history → replies ≡ before ++ answers first.state (take i calls)
    → room ≡ ran first (take i calls)
    → t ≡ mark room.history → reply ≡ answer room.state copy → new ≡ called room t copy → more ≡ replies ++ reply ∷ []
    → (mark new.history ≤ 2 ^ 61 + length new.history) × (more ≡ before ++ answers first.state (take (i + 1) calls))
    × (new ≡ ran first (take (i + 1) calls))
goes_on first room new calls i c copy reply before replies more t b e p w a r m y n z =
    let here : new ≡ called room (mark room.history) c = n ∙ ap₂ (λ (u : ℕ) (d : Call). called room u d) m p in
    let taken : take (i + 1) calls ≡ take i calls ++ c ∷ [] = take_more calls i c b ∙ ap (λ (d : Call). take i calls ++ d ∷ []) (sym e) in
    let told : reply ≡ answer (after first.state (take i calls)) c =
    y ∙ ap₂ (λ (S : State) (d : Call). answer S d) (ap (λ (q : Account). q.state) r ∙ ran-state first (take i calls)) p in (
      subst (λ (q : Account). mark q.history ≤ 2 ^ 61 + length q.history) (sym here) (mark-within room c w),
      z ∙ ap₂ (λ (xs : List Reply) (x : Reply). xs ++ x ∷ []) a told
          ∙ append_assoc before (answers first.state (take i calls)) (answer (after first.state (take i calls)) c ∷ [])
          ∙ ap (λ (xs : List Reply). before ++ xs) (sym (answers-push first.state (take i calls) c) ∙ ap (answers first.state) (sym taken)),
      here ∙ ap (λ (q : Account). called q (mark q.history) c) r ∙ sym (ran-push first (take i calls) c) ∙ ap (ran first) (sym taken),
    )

pub loop-call-preserved : goal.loop-call-preserved
loop-call-preserved c =
    let on = goes_on c.args.self.now c.loop-call.self c.step.new.self c.args.calls.now c.loop-call.call-index c.call-item.result
    c.in_ok-copy.copy c.in_ok-reply.reply
    c.args.replies.now.items c.reserve.new.self.items c.push_reserved.new.self.items (mark c.loop-call.self.history)
    c.loop-call-test.true c.call-item.is c.in_ok-copy.ensures.cases c.loop-call.invariant.within
    (c.reserve.ensures.items ∙ c.loop-call.invariant.answered) c.loop-call.invariant.room
    refl c.in_ok-reply.ensures.steps.answered c.in_ok-reply.ensures.steps.called c.push_reserved.ensures.items in
    record { within = on.0; consistent = c.in_ok-reply.ensures.consistent; answered = on.1; room = on.2 }

pub returns-in_err-reserve-clause-keeps_intentions : goal.returns-in_err-reserve-clause-keeps_intentions
returns-in_err-reserve-clause-keeps_intentions c = keeps_intentions c.loop-call.self c.loop-call.invariant.consistent

pub returns-in_err-copy-clause-keeps_intentions : goal.returns-in_err-copy-clause-keeps_intentions
returns-in_err-copy-clause-keeps_intentions c = keeps_intentions c.loop-call.self c.loop-call.invariant.consistent

pub returns-in_err-reply-clause-keeps_intentions : goal.returns-in_err-reply-clause-keeps_intentions
returns-in_err-reply-clause-keeps_intentions c = keeps_intentions c.step.new.self c.in_err-reply.ensures.consistent

pub returns-clause-keeps_intentions : goal.returns-clause-keeps_intentions
returns-clause-keeps_intentions c = keeps_intentions c.loop-call.self c.loop-call.invariant.consistent
