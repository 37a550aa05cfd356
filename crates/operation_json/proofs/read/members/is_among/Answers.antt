-- A row of texts behind references is the row of their bytes.
use Rattle.std.proofs.Common.{bytes_eq, sym, ◌∙◌}
use Rattle.operation_json.proofs.Lists.{list_any-map}
use Rattle.operation_json.proofs.read.members.is_among.Goals as goal

pub returns : goal.returns
returns c = c.contains.ensures.value ∙ sym (list_any-map (λ name. bytes_eq name c.args.key.now) (λ name. name.now) c.args.row.now)
