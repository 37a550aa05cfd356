use Rattle.std.proofs.Common.{◌+◌, ◌*◌, ◌/◌, arith, sym, ◌∙◌}
use Rattle.opid.specs.Clocks.{is_next}
use Rattle.opid.specs.Operations.{Operation}
use Rattle.holdback.proofs.Numbers.{first_of, found_in, not_found_in, in_both, none_due}
use Rattle.holdback.proofs.held.first_ready.Goals as goal
use Rattle.holdback.proofs.held.first_ready.Goals.{then-has_due+else-is_some, else-has_due}

pub returns-then-count-lt-BLOCK : goal.returns-then-count-lt-BLOCK
returns-then-count-lt-BLOCK c =
    first_of c.args.clock.now c.args.ops.now.ops 0 c.len-count.result c.first_ready_of.result c.len-count.ensures.value
    (λ k d s l. absurd (omega (arith, l)))
    c.first_ready_of.ensures

pub returns-then-is_some : goal.returns-then-is_some
returns-then-is_some c =
    found_in c.args.clock.now c.args.ops.now.ops (c.loop-block.block * 16) (c.loop-block.block * 16 + 16) c.first_ready_of-found.result
    (omega (arith, c.loop-block-test.true, c.len-count.ensures.value)) c.loop-block.invariant c.first_ready_of-found.ensures
    (sym c.is_some.ensures ∙ c.if-is_some.true)

pub loop-block-preserved : goal.loop-block-preserved
loop-block-preserved c k d s l =
    in_both (λ (y : Operation). is_next y.site y.clock c.args.clock.now) c.args.ops.now.ops 0 (c.loop-block.block * 16)
    (c.loop-block.block * 16 + 16)
    c.loop-block.invariant
    (elim c.if-has_due.branch [
      | then-has_due+else-is_some w ↦
          not_found_in c.args.clock.now c.args.ops.now.ops (c.loop-block.block * 16)
          (c.loop-block.block * 16 + 16) w.first_ready_of-found.result
          w.first_ready_of-found.ensures (sym w.is_some.ensures ∙ w.if-is_some.false)
      | else-has_due w ↦
          none_due c.args.clock.now c.due_numbers-due.result c.args.numbers.now c.args.ops.now.ops (c.loop-block.block * 16)
          (c.loop-block.block * 16 + 16) c.due_numbers-due.ensures c.requires
          (omega (arith, c.loop-block-test.true, c.len-count.ensures.value)) (c.has_due.ensures w.if-has_due.false)
    ])
    k d s (omega (arith, l))

pub returns : goal.returns
returns c =
    first_of c.args.clock.now c.args.ops.now.ops
    (c.len-count.result / 16 * 16) c.len-count.result c.first_ready_of-2.result c.len-count.ensures.value
    (λ k d s l. c.loop-block.invariant k d s (omega (arith, l, c.loop-block-test.false))) c.first_ready_of-2.ensures
