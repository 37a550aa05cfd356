-- The keys so far are of the row.
use Rattle.std.proofs.Common.{◌≡◌, true, map, take}
use Rattle.wire_json.proofs.FlatObjects.{all_known}
use Rattle.wire_json.proofs.request.fields.are_in_order.Given as goal

abbrev pub invariant-loop-i : goal.invariant-loop-i
invariant-loop-i l = all_known (map (λ name. name.now) l.row) (take l.i l.members) ≡ true
