use Rattle.std.proofs.Common.{arith}
use Rattle.replica.proofs.Submitted.{next_may_follow, next_accepted, never_refused}
use Rattle.replica.proofs.submissions.append_each.Goals as goal

pub append-requires : goal.append-requires
append-requires c =
    (next_may_follow c.args.log.now.log c.loop-op.log.log c.args.ops.now c.loop-op.op-index c.op-item.result c.requires.lawful
    c.loop-op-test.true c.op-item.is c.loop-op.invariant.log).ready

pub unreachable-requires : goal.unreachable-requires
unreachable-requires c =
    never_refused c.loop-op.log.log c.op-item.result c.in-Err.field-0 c.loop-op.log.reserved
    (next_accepted c.args.log.now.log c.loop-op.log.log c.args.ops.now c.loop-op.op-index c.op-item.result c.site.ensures.kept
    c.requires.lawful c.requires.few c.loop-op-test.true c.op-item.is c.loop-op.invariant.log)
    (omega (arith, c.loop-op.invariant.reserved, c.requires.reserved, c.loop-op-test.true)) c.in-Err.ensures.cause
