use Rattle.std.proofs.Common.{inr, ap, ◌∙◌}
use Rattle.operation_json.specs.Members.{◌>>=◌}
use Rattle.operation_json.specs.PackedOperations.{handed_over, operations_at}
use Rattle.wire_json.specs.Internal.Flat.{fields_data}
use Rattle.wire_json.proofs.FlatObjects.{no_list}
use Rattle.wire_json.proofs.request.fields.Fields.operations.Goals as goal

pub returns-in-Flat : goal.returns-in-Flat
returns-in-Flat c = inr (ap (λ fields. operations_at c.args.key.now (fields_data fields)) c.in-Flat.is
    ∙ ap (λ list. list >>= handed_over) (no_list c.args.key.now c.in-Flat.field-0.now))
