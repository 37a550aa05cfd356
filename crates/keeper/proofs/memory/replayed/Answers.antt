-- One more call is done again.
use Rattle.std.proofs.Common.{◌≡◌, ◌+◌, ◌++◌, ◌∷◌, [], take, sym, ap, ◌∙◌}
use Rattle.std.proofs.lemmas.List.{take_more}
use Rattle.keeper.specs.Memory.{seen_next, seen_after}
use Rattle.keeper.proofs.Replays.{seen_more}
use Rattle.keeper.proofs.memory.replayed.Goals as goal

pub loop-call-preserved : goal.loop-call-preserved
loop-call-preserved c =
    let calls = c.args.calls.now in
    let at = c.loop-call.call-index in
    let call = c.call-item.result in
    let more : take (at + 1) calls ≡ take at calls ++ call ∷ [] = take_more calls at call c.loop-call-test.true ∙ ap
    (λ x. take at calls ++ x ∷ []) (sym c.call-item.is) in
    c.in_ok-redo.ensures ∙ ap (λ file. seen_next file call) c.loop-call.invariant ∙ sym (seen_more c.args.first.now (take at calls) call)
    ∙ ap (seen_after c.args.first.now) (sym more)
