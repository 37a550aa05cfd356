use Rattle.std.proofs.Common.{◌≡◌, List, Some, subst}
use Rattle.json.specs.Token.{Token}
use Rattle.json_bytes.specs.Internal.Coming.{value_of_tokens}
use Rattle.wire_json.specs.Internal.Flat.{flat_data}
use Rattle.operation_json.proofs.Steps.{json_read}
use Rattle.wire_json.proofs.request.flat.read_flat.Goals as goal

pub returns : goal.returns
returns c = λ told.
    let members = flat_data c.read_members.new.members.items in
    json_read c.args.text.now members c.utf8.text
    (subst (λ (ts : List Token). value_of_tokens ts ≡ Some members) c.in-Ok.ensures.ok (c.read_members.ensures told))
