use Rattle.std.proofs.Common.{◌-◌, ◌∙◌, sym, take, drop, arith}
use Rattle.opid.proofs.Gathered.{gathered}
use Rattle.versions.proofs.Left.{left_after}
use Rattle.versions.proofs.doc.Doc.copy_ops.Goals as goal

pub told-preserved : goal.told-preserved
told-preserved c =
    let log = c.args.self.now.log in
    let at = left_after log c.told._place c.next_op.result c.next_op.new.self.left (sym c.told.invariant.walk ∙ c.next_op.ensures.value) in
    record {
      gathered = gathered log c.told.ops.items c.push.new.self.items (take (c.args.end - c.args.from) (drop c.args.from log)) c.told._place
          c.args.end c.next_op.result (omega (arith, c.told-test.true)) at.0 c.told.invariant.gathered c.in_ok-push.ensures.items;
      walk = at.1;
    }
