use Rattle.std.proofs.Common.{◌+◌, ◌∷◌, [], ◌∙◌, ap, arith, drop, length, subst}
use Rattle.std.proofs.lemmas.List.{length-append, length-drop}
use Rattle.room.proofs.Handing.{Delivers, delivers, handed_on}
use Rattle.room.proofs.calls.hand_over.Goals as goal

pub loop-op-preserved : goal.loop-op-preserved
loop-op-preserved c =
    let left = length-drop c.loop-op.op-index c.args.ops.now in
    let later = length-drop (c.loop-op.op-index + 1) c.args.ops.now in
    let d = delivers c.loop-op.replica c.put_copy.new.self c.op-item.result c.put_copy.result c.put_copy.ensures.outcome
    c.put_copy.ensures.next c.put_copy.ensures.cause c.put_copy.ensures.err
    (omega (arith, c.loop-op.invariant.reserved, left, c.loop-op-test.true)) in
    record {
      site = d.site ∙ c.loop-op.invariant.site;
      handed =
          handed_on c.loop-op.replica c.put_copy.new.self c.args.ops.now c.loop-op.op-index c.op-item.result c.put_copy.result
          c.loop-op.outcomes.items c.push_reserved.new.self.items c.outcome_of-outcome.result _ c.loop-op-test.true
          (subst (λ x. Delivers c.loop-op.replica c.put_copy.new.self x c.put_copy.result) c.op-item.is d) c.outcome_of-outcome.ensures
          c.push_reserved.ensures.items c.loop-op.invariant.handed;
      reserved = d.reserved (length (drop (c.loop-op.op-index + 1) c.args.ops.now))
          (omega (arith, c.loop-op.invariant.reserved, left, later, c.loop-op-test.true));
      capacity = omega (
        arith,
        c.loop-op.invariant.capacity,
        left,
        later,
        c.loop-op-test.true,
        c.push_reserved.ensures.capacity,
        ap length c.push_reserved.ensures.items,
        length-append c.loop-op.outcomes.items (c.outcome_of-outcome.result ∷ []),
      );
    }
