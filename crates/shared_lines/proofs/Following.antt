-- What was served in one kind of states, seen in another: where each answer in the first is one in the second, from a state that is
-- related to one that is.
use Rattle.std.proofs.Common.{◌≡◌, ℕ, List, [], ◌∷◌, Option, Result, Ok, Err, inl, inr, refl, sym, subst}
use Rattle.opid.specs.declared.refusal.Refusal.{Refusal}
use Rattle.room_model.specs.declared.call.Call.{Call}
use Rattle.room_model.specs.declared.reply.Reply.{Reply}
use Rattle.room_model.specs.declared.desk_fault.DeskFault.{DeskFault}
use Rattle.wire_json.specs.Request.{request}
use Rattle.line_engine.specs.AnsweredRequests.{AnswersAsked, AnswersRequest}
use Rattle.line_engine.specs.Lines.{cut}
use Rattle.line_engine.specs.ServedLines.{AreAnswered, Serves}
use Rattle.line_engine.specs.declared.fault.ServeFault.{ServeFault}
use Rattle.line_engine.specs.declared.fault.ServeFault.TheVariants as Ends

like_same : {S T : Type 0} (Like : S → T → Type 0) (a b : S) (v : T) → b ≡ a → Like a v → Like b v
like_same {S} Like a b v same like = subst (λ (x : S). Like x v) (sym same) like

module _ (S T : Type 0) (step : S → Call → Reply → S → Type 0) (fault : S → Call → DeskFault → S → Type 0)
    (step' : T → Call → Reply → T → Type 0) (fault' : T → Call → DeskFault → T → Type 0) (Like : S → T → Type 0)
    (steps : (a : S) (c : Call) (r : Reply) (b : S) (v : T) → Like a v → step a c r b → (w : T) × Like b w × step' v c r w)
    (faults : (a : S) (c : Call) (e : DeskFault) (b : S) (v : T) → Like a v → fault a c e b → (w : T) × Like b w × fault' v c e w) where
  asked : (a : S) (q : Result Call Refusal) (answer : List ℕ) (b : S) (v : T) → Like a v → AnswersAsked step fault a q answer b
      → (w : T) × Like b w × AnswersAsked step' fault' v q answer w
  asked a (Ok c) answer b v like (inl (r, did, e)) = let f = steps a c r b v like did in (f.0, f.1, inl (r, f.2, e))
  asked a (Ok c) answer b v like (inr (why, did, e)) = let f = faults a c why b v like did in (f.0, f.1, inr (why, f.2, e))
  asked a (Err refusal) answer b v like (e, same) = (v, like_same Like a b v same like, (e, refl))

  -- an answer to a line, where each step and each fault of a desk is one of the other's
  pub answered : (a : S) (line answer : List ℕ) (b : S) (v : T) → Like a v → AnswersRequest step fault a line answer b
      → (w : T) × Like b w × AnswersRequest step' fault' v line answer w
  answered a line answer b v like (inl h) = let f = asked a (request line) answer b v like h in (f.0, f.1, inl f.2)
  answered a line answer b v like (inr (few, e, same)) = (v, like_same Like a b v same like, inr (few, e, refl))

module _ (S T : Type 0) (answers : S → List ℕ → List ℕ → S → Type 0) (answers' : T → List ℕ → List ℕ → T → Type 0) (Like : S → T → Type 0)
    (each : (a : S) (line text : List ℕ) (b : S) (v : T) → Like a v → answers a line text b
    → (w : T) × Like b w × answers' v line text w) where
  all : (a : S) (lines texts : List (List ℕ)) (b : S) (v : T) → Like a v → AreAnswered answers a lines texts b
      → (w : T) × Like b w × AreAnswered answers' v lines texts w
  all a [] [] b v like same = (v, like_same Like a b v same like, refl)
  all a (line ∷ lines) (text ∷ texts) b v like (mid, h, rest) =
      let f = each a line text mid v like h in
      let k = all mid lines texts b f.0 f.1 rest in (k.0, k.1, (f.0, f.2, k.2))
  all a [] (text ∷ texts) b v like h = absurd h
  all a (line ∷ lines) [] b v like h = absurd h

  -- what was served, at each end
  pub serves : {U : Type 0} (a : S) (got : List ℕ) (left : Option (List ℕ)) (written : List ℕ) (r : Result U ServeFault) (b : S)
      (v : T) → Like a v
      → Serves answers a got left written r b → (w : T) × Like b w × Serves answers' v got left written r w
  serves a got left written (Ok done) b v like ((texts, s, e), end) =
      let k = all a (cut got) texts b v like s in (k.0, k.1, ((texts, k.2, e), end))
  serves a got left written (Err Ends.Read) b v like (lines, rest, texts, l, m, is, s, e) =
      let k = all a lines texts b v like s in (k.0, k.1, (lines, rest, texts, l, m, is, k.2, e))
  serves a got left written (Err Ends.Write) b v like (text, sent, (lines, line, texts, mid, reaches, s, h, e, short)) =
      let k = all a lines texts mid v like s in
      let f = each mid line text b k.0 k.1 h in
      (f.0, f.1, (text, sent, (lines, line, texts, k.0, reaches, k.2, f.2, e, short)))
  serves a got left written (Err Ends.Memory) b v like (text, other, (lines, line, texts, mid, reaches, s, h, e, short)) =
      let k = all a lines texts mid v like s in
      let f = each mid line text b k.0 k.1 h in
      (f.0, f.1, (text, other, (lines, line, texts, k.0, reaches, k.2, f.2, e, short)))
