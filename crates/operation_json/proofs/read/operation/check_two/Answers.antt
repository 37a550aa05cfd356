-- A list of two items is told by its length.
use Rattle.std.proofs.Common.{◌≡◌, ◌≢◌, ◌∙◌, length, sym, arith}
use Rattle.serde_json.proofs.Views.{items_len-items_view}
use Rattle.serde_json.specs.View.{view}
use Rattle.operation_json.proofs.Steps.{of_two, of_other_than_two}
use Rattle.operation_json.proofs.read.operation.check_two.Goals as goal

pub returns-in-Some : goal.returns-in-Some
returns-in-Some c =
    let long : length c.in-Some.items.now.items ≡ 2 = omega (arith, c.in-Some.items.now.ok, c.len.ensures, c.if-len-eq2.true) in
    of_two _ (view c.args.value.now) c.in-Some.ensures (items_len-items_view c.in-Some.items.now.items ∙ long)

pub returns-in_default : goal.returns-in_default
returns-in_default c =
    let other : length c.in-Some.items.now.items ≢ 2 = omega (arith, c.in-Some.items.now.ok, c.len.ensures, c.if-len-eq2.false) in
    of_other_than_two _ (view c.args.value.now) c.in-Some.ensures (λ e. other (sym (items_len-items_view c.in-Some.items.now.items) ∙ e))
