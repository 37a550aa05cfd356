use Rattle.std.proofs.Common.{◌∷◌, Option, Vec, Global, subst}
use Rattle.std.specs.Prelude.{IfSome}
use Rattle.json.specs.Token.{end_array}
use Rattle.operation_json.specs.Packing.{unfolded_all}
use Rattle.snapshot.specs.declared.gathered.Gathered.{Gathered}
use Rattle.snapshot.specs.Internal.Coming.{TellsLog}
use Rattle.snapshot.proofs.Telling.{log_read}
use Rattle.snapshot.proofs.spelled.read_members.Goals as goal

pub returns-clause-told : goal.returns-clause-told
returns-clause-told c =
    log_read c.args.reader.now c.next_head.new.reader c.rest_of_log.new.reader c.in-Some.runs (unfolded_all c.in-Some-2.items.items)
    c.in-Some.ensures
    (subst (λ (o : Option (Vec Gathered Global)). IfSome o (λ items. TellsLog c.in-Some.runs c.next_head.new.reader
    (unfolded_all items.items) (end_array ∷ c.rest_of_log.new.reader))) c.in-Some-2.is c.in_ok-items.ensures.told)
    (c.is_closed.ensures c.if-not-is_closed.false)
