-- The keys that were seen are all of the row, so the rest decides.
use Rattle.std.proofs.Common.{◌≡◌, map}
use Rattle.serde_json.specs.View.{members_view}
use Rattle.operation_json.specs.Members.{are_among}
use Rattle.operation_json.proofs.read.members.has_only.Given as goal

abbrev pub invariant-loop-key : goal.invariant-loop-key
invariant-loop-key l = are_among (map (λ key. key.now) l.row) (members_view l.members.entries)
    ≡ are_among (map (λ key. key.now) l.row) (members_view l.key-iterator)
