use Rattle.std.proofs.Common.{Vec, Global, ◌∙◌, ap}
use Rattle.json.specs.Lex.{tokens}
use Rattle.opid.specs.Operations.{Operation}
use Rattle.wire_json.proofs.PartTokens.{spelled}
use Rattle.wire_json.proofs.part.bytes.read_plain_part.Goals as goal

pub returns-clause-told : goal.returns-clause-told
returns-clause-told c =
    spelled (λ (ops : Vec Operation Global). ops.items) c.args.bytes.now c.new-reader.result c.next_part.result c.in-Ok.ensures.cases.1
    (c.new-reader.ensures ∙ ap tokens c.in-Ok.ensures.cases.0) c.next_part.ensures.told
