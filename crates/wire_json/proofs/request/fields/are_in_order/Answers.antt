use Rattle.std.proofs.Common.{sym, ap, ◌∙◌}
use Rattle.std.proofs.lemmas.Bool.{not-false}
use Rattle.std.proofs.lemmas.List.{take_all}
use Rattle.wire_json.proofs.FlatObjects.{one_more_known, all_known}
use Rattle.wire_json.proofs.request.fields.are_in_order.Goals as goal

pub loop-i-preserved : goal.loop-i-preserved
loop-i-preserved c =
    one_more_known c.args.row.now c.args.members.now c.loop-i.i _ _ c.loop-i-test.true c.if-row-members.false
    (not-false _ (sym c.ne.ensures ∙ c.if-ne.false)) c.loop-i.invariant

pub returns : goal.returns
returns c = λ _.
    ap (all_known _) (sym (take_all c.loop-i.i c.args.members.now c.loop-i-test.false)) ∙ c.loop-i.invariant
