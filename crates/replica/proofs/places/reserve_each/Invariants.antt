-- What the loop over the rows keeps.
use Rattle.std.proofs.Common.{◌≡◌, ℕ, ◌≤◌, ◌<◌, map, get_or}
use Rattle.std.specs.List.{AllByRecursion}
use Rattle.replica.specs.Internal.Numbered.{PlacesOfOne}
use Rattle.replica.proofs.places.reserve_each.Given as goal

-- each row keeps its places and its memory, and each so far has memory for n
abbrev pub invariant-loop-row : goal.invariant-loop-row
invariant-loop-row l = record {
  same : map (λ r. r.places) l.rows ≡ map (λ r. r.places) l.fn.rows;
  kept : (reserved : ℕ) → AllByRecursion (λ r. reserved ≤ r.reserved) l.fn.rows → AllByRecursion (λ r. reserved ≤ r.reserved) l.rows;
  enough : (k : ℕ) (d : PlacesOfOne) → k < l.row-index → l.n ≤ (get_or l.rows k d).reserved;
}
