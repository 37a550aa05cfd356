-- What the loop over the tables keeps.
use Rattle.std.proofs.Common.{◌≡◌, ℕ, ◌≤◌, ◌<◌}
use Rattle.rga_list.specs.Internal.Links.{ids_at}
use Rattle.rga_list.proofs.rga.reserve_each.Given as goal

-- each table keeps its identifiers and its memory, and each so far has memory for n
abbrev pub invariant-loop-table : goal.invariant-loop-table
invariant-loop-table l = record {
  same : (k : ℕ) → (ids_at l.tables k).ids ≡ (ids_at l.fn.tables k).ids;
  kept : (k : ℕ) → (ids_at l.fn.tables k).reserved ≤ (ids_at l.tables k).reserved;
  enough : (k : ℕ) → k < l.table-index → l.n ≤ (ids_at l.tables k).reserved;
}
