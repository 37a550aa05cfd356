-- What is written, and what the item becomes with the rest, is all; its last operation is the one before; the operations so far are
-- within their ranges.
use Rattle.std.proofs.Common.{◌≡◌, ◌++◌, ◌∷◌, [], take, drop}
use Rattle.std.specs.List.{AllByRecursion}
use Rattle.operation_json.specs.Packing.{last_typed}
use Rattle.operation_json.specs.Text.{IsOperationInRange, packed_text}
use Rattle.operation_json.proofs.ItemTexts.{listed}
use Rattle.operation_json.proofs.write.items.push_packed.Given as goal

abbrev pub invariant-loop-op : goal.invariant-loop-op
invariant-loop-op l = record {
  text : l.out.items ++ (listed (record { first = l.first; more = l.more.items }) (drop l.op-index l.rest) ++ 93 ∷ [])
      ≡ l.fn.out.items ++ packed_text l.ops;
  last : l.last ≡ last_typed l.first l.more.items;
  in_range : AllByRecursion IsOperationInRange (take l.op-index l.rest);
}
