use Rattle.std.proofs.Common.{decimal, drop, ap, ◌∙◌, ◌++◌}
use Rattle.operation_json.specs.Text.{clock_text, stamp_text}
use Rattle.operation_json.proofs.ClockBytes.{deletion_put}
use Rattle.operation_json.proofs.write.bytes.put_deletion.Goals as goal

pub returns-clause-told : goal.returns-clause-told
returns-clause-told c =
    deletion_put (clock_text c.args.clock.now) (decimal c.args.site) (stamp_text c.args.target)
    (drop c.args.at c.args.bytes.now) _ _ _ _ _ _ _ c.put-at.ensures.told c.put_stamp-at.ensures.told c.put_all-at.ensures.told
    (c.put_small-at.ensures.told ∙ ap (λ n. decimal n ++ drop c.put_all-at.result c.put_all-at.new.bytes)
    (c.from.ensures ∙ c.number.ensures.value)) c.put_all-at-2.ensures.told c.put_clock-at.ensures.told c.put_all.ensures.told
