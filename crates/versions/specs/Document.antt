-- A document as contracts see it: the log of its operations (Attiya and others 2016).
use Rattle.std.specs.Prelude.{ℕ, List}
use Rattle.opid.specs.Operations.{Operation}

-- the log, and how many further operations have their memory already
pub record Document : Type 0 where
  pub log : List Operation
  pub reserved : ℕ
