-- An item has at most 64 operations, so all are kept.
use Rattle.std.proofs.Common.{◌≡◌, Ok, take, rules, sym}
use Rattle.serde_json.specs.View.{view}
use Rattle.operation_json.specs.Operations.{sited}
use Rattle.operation_json.specs.PackedOperations.{item_operations}
use Rattle.operation_json.proofs.RunLoops.{item_told}
use Rattle.operation_json.proofs.read.items.read_item_ops.Goals as goal

pub returns : goal.returns
returns c =
    let out = c.in_ok-unfold.ensures.ok in
    let here : sited c.in_ok-offer.offer.first ≡ Ok c.in_ok-first.first = search rules in
    let all : item_operations (record { first = c.in_ok-first.first; more = c.in_ok-offer.offer.more }) ≡ Ok out.0 =
    search (rules, out.1) in
    let kept : c.unfold.new.ops.items ≡ take 65 out.0 = search (rules, out.2) in
    item_told (view c.args.value.now) c.in_ok-offer.offer c.in_ok-first.first out.0 c.unfold.new.ops.items (sym c.in_ok-offer.ensures.told)
    here all c.in_ok-offer.ensures.few kept
