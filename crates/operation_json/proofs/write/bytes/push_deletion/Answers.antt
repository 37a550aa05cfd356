use Rattle.std.proofs.Common.{decimal, replicate, ap, arith}
use Rattle.std.proofs.lemmas.Grind.{common_steps}
use Rattle.std.proofs.lemmas.List.{drop_all}
use Rattle.operation_json.specs.Text.{clock_text, stamp_text}
use Rattle.operation_json.proofs.ClockBytes.{deletion_pushed}
use Rattle.operation_json.proofs.write.bytes.push_deletion.Goals as goal

pub returns : goal.returns
returns c =
    deletion_pushed c.put_deletion-at.new.bytes (clock_text c.args.op.now.clock) (decimal c.args.op.now.site)
    (stamp_text c.args.target) _ c.args.out.now.items c.extend_from_slice.new.self.items (clock_text c.known.result.now)
    (decimal c.site.result) c.put_deletion-at.result (omega (arith, c.put_deletion-at.array_long)) c.put_deletion-at.ensures.told
    (drop_all 896 (replicate 896 0) (grind (arith, common_steps))) (ap clock_text c.known.ensures.value)
    (ap decimal c.site.ensures.value) c.in_ok-extend_from_slice.ensures.items
