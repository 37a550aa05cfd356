use Rattle.std.proofs.Common.{◌∷◌, ap, sym, subst, ◌∙◌}
use Rattle.json.specs.Reads.{token_of}
use Rattle.wire_json.specs.Internal.Flat.{TellsMembers}
use Rattle.wire_json.proofs.FlatObjects.{one_more, whole_object}
use Rattle.wire_json.proofs.request.flat.read_members.Goals as goal

pub returns-in-End : goal.returns-in-End
returns-in-End c = λ _.
    whole_object c.args.reader.now c.next.new.self c.loop.members.items c.loop.reader
    (c.in-Some-BeginObject.ensures.value ∙ ap (λ t. token_of t ∷ c.next.new.self) c.in-Some-BeginObject.field-0-is)
    c.loop.invariant c.in-End.ensures

pub loop-preserved : goal.loop-preserved
loop-preserved c =
    subst (λ items. TellsMembers c.next.new.self items c.read_member.new.reader) (sym c.push.ensures.items)
    (one_more c.next.new.self c.loop.members.items c.in-Member.member c.loop.reader c.read_member.new.reader
    c.loop.invariant c.in-Member.ensures)
