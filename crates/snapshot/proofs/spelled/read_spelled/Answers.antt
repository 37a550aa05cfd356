use Rattle.std.proofs.Common.{◌≡◌, Ok, Option, Vec, Global, ◌∙◌, List, ap, subst, sym}
use Rattle.std.specs.Prelude.{IfSome}
use Rattle.json.specs.Token.{Token}
use Rattle.json.specs.Lex.{tokens}
use Rattle.opid.specs.Operations.{Operation}
use Rattle.operation_json.specs.Packing.{unfolded_all}
use Rattle.snapshot.specs.declared.gathered.Gathered.{Gathered}
use Rattle.snapshot.specs.Snapshot.{told_in}
use Rattle.snapshot.specs.Internal.Coming.{ReadsLog}
use Rattle.snapshot.proofs.Telling.{bytes_told}
use Rattle.snapshot.proofs.spelled.read_spelled.Goals as goal

pub returns-in-Ok-integrate_gathered-clause-stands :
    goal.returns-in-Ok-integrate_gathered-clause-stands
returns-in-Ok-integrate_gathered-clause-stands c =
    let log : List Operation = unfolded_all c.in-Some.items.items in
    let read : ReadsLog c.new-reader.result log =
    subst (λ (o : Option (Vec Gathered Global)). IfSome o (λ items. ReadsLog c.new-reader.result (unfolded_all items.items)))
    c.in-Some.is c.in_ok-items.ensures.told in
    let told : told_in c.args.bytes.now ≡ Ok log =
    bytes_told c.args.bytes.now log c.in-Ok.ensures.cases.1
    (subst (λ (ts : List Token). ReadsLog ts log) (c.new-reader.ensures ∙ ap tokens c.in-Ok.ensures.cases.0) read) in
    record {
      told = told ∙ ap Ok (sym (c.in-Ok-integrate_gathered.ensures.told ∙ ap unfolded_all c.as_slice.ensures.value));
      lawful = c.version.ensures.lawful;
      few = c.version.ensures.within;
    }
