use Rattle.std.proofs.Common.{codes, sym, subst}
use Rattle.std.specs.Prelude.{IfSome}
use Rattle.room_model.specs.declared.call.Call.{Call}
use Rattle.wire_json.specs.Internal.CallTokens.{ReadsOps, ReadsRest}
use Rattle.wire_json.proofs.PutTokens.{put_rest}
use Rattle.wire_json.proofs.request.put.rest_of_put.Goals as goal

pub returns-clause-told : goal.returns-clause-told
returns-clause-told c =
    subst (λ (call : Call). ReadsRest (codes "put") c.args.reader.now call) (sym c.put_of.ensures)
    (put_rest c.args.reader.now c.take_key.new.self c.next_ops.new.reader c.in-Some.ops.items
    (c.take_key.ensures.yes c.if-not-take_key.false)
    (subst (λ o. IfSome o (λ ops. ReadsOps c.take_key.new.self ops.items c.next_ops.new.reader)) c.in-Some.is c.in_ok-ops.ensures.told)
    (c.is_closed.ensures c.if-not-is_closed.false))
