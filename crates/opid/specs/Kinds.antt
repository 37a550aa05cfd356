-- What is true of every clock and of every operation that a value of these types tells (Roh and others 2011).
use Rattle.std.specs.Prelude.{◌≡◌, ℕ, ◌<◌, ◌≤◌, List, length, sum}
use Rattle.opid.specs.declared.limits.TheConstants.{MAX_OPERATIONS}
use Rattle.opid.specs.declared.site.TheConstants.{SITES}
use Rattle.opid.specs.Clocks.{entry}
use Rattle.opid.specs.Operations.{Operation}

-- a count for each of 32 sites, with a sum of at most 131,072
pub record IsClock (clock : List ℕ) : Type 0 where
  pub width : length clock ≡ SITES
  pub limit : sum clock ≤ MAX_OPERATIONS

-- an operation of one of 32 sites, which its own clock counts
pub record IsOperation (op : Operation) : Type 0 where
  pub site : op.site < SITES
  pub width : length op.clock ≡ SITES
  pub limit : sum op.clock ≤ MAX_OPERATIONS
  pub own : 0 < entry op.clock op.site
