-- None so far is the one.
use Rattle.std.proofs.Common.{◌≡◌, ℕ, ◌<◌, map, string_bytes}
use Rattle.std.specs.Prelude.{slice_index_or}
use Rattle.ws_server.proofs.origin.is_named.Given as goal

abbrev pub invariant-loop-name : goal.invariant-loop-name
invariant-loop-name l = (k : ℕ) → k < l.name-index → slice_index_or (map string_bytes l.named) k l.origin ≡ l.origin → ⊥
