-- Causal delivery: when an operation is ready after others (Roh, Jeon, Kim and Lee 2011).
use Rattle.std.specs.Prelude.{ℕ, Bool, ◌==◌, List, map, count_by}
use Rattle.opid.specs.Clocks.{sites, is_next}
use Rattle.opid.specs.Operations.{Operation}

-- how many of the operations the site made
abbrev pub count_of : List Operation → ℕ → ℕ
count_of ops site = count_by (λ x. x.site == site) ops

-- the clock of a list of operations: for each site, how many of them it made
abbrev pub clock_of : List Operation → List ℕ
clock_of ops = map (count_of ops) sites

-- x is ready: it is its site's next operation, and every other operation that it knows of is there
abbrev pub is_ready : List Operation → Operation → Bool
is_ready ops x = is_next x.site x.clock (clock_of ops)
