use Rattle.std.proofs.Common.{Option, Vec, Global, subst}
use Rattle.std.specs.Prelude.{IfSome}
use Rattle.opid.specs.Operations.{Operation}
use Rattle.wire_json.specs.Internal.CallTokens.{ReadsOps}
use Rattle.wire_json.proofs.PartTokens.{part_read}
use Rattle.wire_json.proofs.part.bytes.next_part.Goals as goal

pub returns-clause-told : goal.returns-clause-told
returns-clause-told c =
    part_read c.args.reader.now c.next_from.new.reader c.take_key.new.self c.next_ops.new.reader c.in-Some.from c.in-Some-2.ops.items
    c.in-Some.ensures (c.take_key.ensures.yes c.if-not-take_key.false)
    (subst (λ (o : Option (Vec Operation Global)). IfSome o (λ ops. ReadsOps c.take_key.new.self ops.items c.next_ops.new.reader))
    c.in-Some-2.is c.in_ok-ops.ensures.told)
    (c.is_rest_of_part.ensures c.if-not-is_rest_of_part.false)
