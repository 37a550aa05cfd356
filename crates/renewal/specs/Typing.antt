-- The log in which a site typed a text, and nothing else was done: its insertions at the head of the empty document, one for each
-- character, each behind the one before it. A document begins anew so by the server's own rule.
use Rattle.std.specs.Prelude.{ℕ, List, []}
use Rattle.opid.specs.Operations.{Operation}
use Rattle.opid.specs.Asked.{asked_insertions}

-- the operations
abbrev pub typing_of : ℕ → List ℕ → List Operation
typing_of site chars = asked_insertions [] site 0 0 chars
