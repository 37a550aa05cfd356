-- Where a kind isn't next, the tokens stay.
use Rattle.std.proofs.Common.{◌∙◌, codes, refl}
use Rattle.wire_json.proofs.CallTokens.{some_read, ok_read}
use Rattle.wire_json.proofs.request.reader.read_kind.Goals as goal

pub returns-then-take_text-clause-told : goal.returns-then-take_text-clause-told
returns-then-take_text-clause-told c =
    ok_read c.args.reader.now c.args.reader.now c.take_text.new.self (codes "ins") c.rest_of_ins.result
    refl
    (c.take_text.ensures.yes c.if-take_text.true) c.rest_of_ins.ensures.told

pub returns-then-take_text-2-clause-told : goal.returns-then-take_text-2-clause-told
returns-then-take_text-2-clause-told c =
    some_read c.args.reader.now c.take_text.new.self c.take_text-2.new.self (codes "pull") c.rest_of_pull.result
    (c.take_text.ensures.no c.if-take_text.false)
    (c.take_text-2.ensures.yes c.if-take_text-2.true) c.rest_of_pull.ensures

pub returns-then-take_text-3-clause-told : goal.returns-then-take_text-3-clause-told
returns-then-take_text-3-clause-told c =
    some_read c.args.reader.now c.take_text-2.new.self c.take_text-3.new.self (codes "del") c.rest_of_del.result
    (c.take_text-2.ensures.no c.if-take_text-2.false
    ∙ c.take_text.ensures.no c.if-take_text.false)
    (c.take_text-3.ensures.yes c.if-take_text-3.true) c.rest_of_del.ensures

pub returns-then-take_text-4-clause-told : goal.returns-then-take_text-4-clause-told
returns-then-take_text-4-clause-told c =
    ok_read c.args.reader.now c.take_text-3.new.self c.take_text-4.new.self (codes "put") c.rest_of_put.result
    (c.take_text-3.ensures.no c.if-take_text-3.false
    ∙ c.take_text-2.ensures.no c.if-take_text-2.false
    ∙ c.take_text.ensures.no c.if-take_text.false)
    (c.take_text-4.ensures.yes c.if-take_text-4.true) c.rest_of_put.ensures.told

pub returns-then-take_text-5-clause-told : goal.returns-then-take_text-5-clause-told
returns-then-take_text-5-clause-told c =
    some_read c.args.reader.now c.take_text-4.new.self c.take_text-5.new.self (codes "ops") c.rest_of_ops.result
    (c.take_text-4.ensures.no c.if-take_text-4.false
    ∙ c.take_text-3.ensures.no c.if-take_text-3.false
    ∙ c.take_text-2.ensures.no c.if-take_text-2.false
    ∙ c.take_text.ensures.no c.if-take_text.false)
    (c.take_text-5.ensures.yes c.if-take_text-5.true) c.rest_of_ops.ensures

pub returns-then-take_text-6-clause-told : goal.returns-then-take_text-6-clause-told
returns-then-take_text-6-clause-told c =
    some_read c.args.reader.now c.take_text-5.new.self c.take_text-6.new.self (codes "read") c.rest_of_read.result
    (c.take_text-5.ensures.no c.if-take_text-5.false
    ∙ c.take_text-4.ensures.no c.if-take_text-4.false
    ∙ c.take_text-3.ensures.no c.if-take_text-3.false
    ∙ c.take_text-2.ensures.no c.if-take_text-2.false
    ∙ c.take_text.ensures.no c.if-take_text.false)
    (c.take_text-6.ensures.yes c.if-take_text-6.true) c.rest_of_read.ensures

pub returns-then-take_text-7-clause-told : goal.returns-then-take_text-7-clause-told
returns-then-take_text-7-clause-told c =
    some_read c.args.reader.now c.take_text-6.new.self c.take_text-7.new.self (codes "join") c.rest_of_join.result
    (c.take_text-6.ensures.no c.if-take_text-6.false
    ∙ c.take_text-5.ensures.no c.if-take_text-5.false
    ∙ c.take_text-4.ensures.no c.if-take_text-4.false
    ∙ c.take_text-3.ensures.no c.if-take_text-3.false
    ∙ c.take_text-2.ensures.no c.if-take_text-2.false
    ∙ c.take_text.ensures.no c.if-take_text.false)
    (c.take_text-7.ensures.yes c.if-take_text-7.true) c.rest_of_join.ensures

pub returns-then-take_text-8-clause-told : goal.returns-then-take_text-8-clause-told
returns-then-take_text-8-clause-told c =
    some_read c.args.reader.now c.take_text-7.new.self c.take_text-8.new.self (codes "leave") c.rest_of_leave.result
    (c.take_text-7.ensures.no c.if-take_text-7.false
    ∙ c.take_text-6.ensures.no c.if-take_text-6.false
    ∙ c.take_text-5.ensures.no c.if-take_text-5.false
    ∙ c.take_text-4.ensures.no c.if-take_text-4.false
    ∙ c.take_text-3.ensures.no c.if-take_text-3.false
    ∙ c.take_text-2.ensures.no c.if-take_text-2.false
    ∙ c.take_text.ensures.no c.if-take_text.false)
    (c.take_text-8.ensures.yes c.if-take_text-8.true) c.rest_of_leave.ensures
