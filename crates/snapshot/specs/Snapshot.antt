-- Which log a text stands for: a JSON object (RFC 8259) with exactly the keys `format`, the number 1 or 2, and `ops`, the list of
-- the log's operations in order. In format 2 runs of insertions may be packed, in any way. The log has to be lawful (Roh, Jeon,
-- Kim and Lee 2011) and have at most 131,072 operations.
use Rattle.std.specs.Prelude.{◌≡◌, ◌≤◌, ◌==◌, ℕ, Bool, true, false, if◌then◌else◌, Result, Ok, Err, List, [], ◌∷◌, ◌++◌, length, codes}
use Rattle.std.specs.List.{AllByRecursion}
use Rattle.opid.specs.declared.limits.TheConstants.{MAX_OPERATIONS}
use Rattle.serde_json.specs.Data.{Data}
use Rattle.opid.specs.declared.refusal.Refusal.{Refusal}
use Rattle.opid.specs.declared.refusal.Refusal.TheVariants.{BadField}
use Rattle.opid.specs.Operations.{Operation}
use Rattle.opid.specs.Lawful.{IsLawful}
use Rattle.operation_json.specs.Members.{◌>>=◌, only_keys, number_at, json_of}
use Rattle.operation_json.specs.Operations.{each, list_at, op_of}
use Rattle.operation_json.specs.PackedOperations.{packed_ops_of}
use Rattle.operation_json.specs.Text.{IsOperationInRange, packed_text}

-- the number has to be 1 or 2: whether it is 2, which has runs
abbrev pub has_runs : ℕ → Result Bool Refusal
has_runs n = if n == 2 then Ok true else (if n == 1 then Ok false else Err BadField)

-- whether the format of an object, with exactly these two keys, is 2
abbrev pub format_of : Data → Result Bool Refusal
format_of d = do
  keys ← only_keys (codes "format" ∷ codes "ops" ∷ []) d
  n ← number_at (codes "format") d
  has_runs n

-- the operations that values tell, in the order of the log: with runs among them, or each an operation by itself
abbrev pub ops_told : Bool → List Data → Result (List Operation) Refusal
ops_told runs ds = if runs then packed_ops_of ds else each op_of ds

-- the operations that a JSON value tells, lawful or not
abbrev pub told_by : Data → Result (List Operation) Refusal
told_by d = do
  runs ← format_of d
  ds ← list_at (codes "ops") d
  ops_told runs ds

-- the operations that bytes tell, lawful or not
abbrev pub told_in : List ℕ → Result (List Operation) Refusal
told_in bytes = json_of bytes >>= told_by

-- the bytes stand for the log
pub record StandsFor (bytes : List ℕ) (log : List Operation) : Type 0 where
  pub told : told_in bytes ≡ Ok log
  pub lawful : IsLawful log
  pub few : length log ≤ MAX_OPERATIONS

-- the bytes stand for no log
abbrev pub StandsForNone : List ℕ → Type 0
StandsForNone bytes = (log : List Operation) → StandsFor bytes log → ⊥

-- no operation of the log is the site's
abbrev pub LacksSite : ℕ → List Operation → Type 0
LacksSite site log = AllByRecursion (λ x. x.site ≡ site → ⊥) log

-- the bytes stand for a log that has an operation of the site
abbrev pub HasSite : ℕ → List ℕ → Type 0
HasSite site bytes = (log : List Operation) × StandsFor bytes log × (LacksSite site log → ⊥)

-- the one compact text of a log: in format 2, packed from the left
abbrev pub log_text : List Operation → List ℕ
log_text log = codes "{\"format\":2,\"ops\":" ++ packed_text log ++ codes "}"

-- the operations' stamps and characters are within their ranges
abbrev pub AreInRange : List Operation → Type 0
AreInRange log = AllByRecursion IsOperationInRange log
