use Rattle.std.proofs.Common.{◌∷◌, decimal, replicate, ap, arith}
use Rattle.std.proofs.lemmas.Grind.{common_steps}
use Rattle.std.proofs.lemmas.List.{drop_all}
use Rattle.operation_json.specs.Text.{clock_text, parent_text}
use Rattle.json_bytes.specs.Quote.{quote}
use Rattle.operation_json.proofs.ClockBytes.{typed_pushed}
use Rattle.operation_json.proofs.write.bytes.push_typed.Goals as goal

pub returns : goal.returns
returns c =
    typed_pushed c.put_typed-at.new.bytes (clock_text c.args.op.now.clock) (parent_text c.args.parent) (decimal c.args.op.now.site) _
    (quote (c.args.ch ∷ c.args.more.now)) c.args.out.now.items c.extend_from_slice.new.self.items c.push_quoted.new.out.items
    c.push.new.self.items (clock_text c.known.result.now) (decimal c.site.result) c.args.letter c.put_typed-at.result
    (omega (arith, c.put_typed-at.array_long)) c.put_typed-at.ensures.told (drop_all 896 (replicate 896 0) (grind (arith, common_steps)))
    (ap clock_text c.known.ensures.value) (ap decimal c.site.ensures.value) c.in_ok-extend_from_slice.ensures.items
    c.in_ok-push_quoted.ensures c.in_ok-push.ensures.items
