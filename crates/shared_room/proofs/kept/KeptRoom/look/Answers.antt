-- What is told is of the room's state, to which its history leads.
use Rattle.std.proofs.Common.{◌≡◌, ℕ, ◌∙◌, ap, sym, subst, List, length, drop}
use Rattle.opid.specs.Operations.{Operation}
use Rattle.room_model.specs.declared.call.Call.{Call}
use Rattle.room_model.specs.Machine.{State}
use Rattle.room_model.specs.History.{Account, state_of}
use Rattle.shared_room.proofs.Looking.{rest_of_log}
use Rattle.shared_room.proofs.kept.KeptRoom.look.Goals as goal

pub returns : goal.returns
returns c =
    let R : Account = c.args.self.now.room.value in
    let replays : R.state ≡ state_of R.opening R.history =
    subst (λ (a : Account). a.state ≡ state_of a.opening a.history) c.deref.ensures (sym c.history.ensures.consistent.replays) in
    let log : c.doc-doc.result.now.log ≡ (state_of R.opening R.history).log =
    c.doc-doc.ensures.value ∙ c.replica.ensures.log ∙ ap (λ (a : Account). a.state.log) c.deref-2.ensures
    ∙ ap (λ (S : State). S.log) replays in
    let whole = rest_of_log c.doc-doc.result.now.log c.in_ok-ops.ops.items c.args.after c.version-version.result c.min.result
    c.version-version.ensures.value c.min.ensures c.in_ok-ops.ensures in
    record {
      ops = c.new.ensures ∙ whole ∙ ap (drop c.args.after) log;
      calls = ap (λ (h : List (ℕ × Call)). length h) (c.history.ensures.value ∙ ap (λ (a : Account). a.history) c.deref.ensures);
      version = c.version-version.ensures.value ∙ ap (λ (l : List Operation). length l) log;
      sessions =
          c.sessions.ensures ∙ ap (λ (a : Account). length a.state.outbox.sessions) c.deref-3.ensures
          ∙ ap (λ (S : State). length S.outbox.sessions) replays;
    }
