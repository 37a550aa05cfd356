-- Why a log refuses an operation that is ready and rising, and the sum of each site's last operation (Roh, Jeon, Kim and Lee 2011: a
-- site's stamps rise).
use Rattle.std.specs.Prelude.{not, nat_le, if◌then◌else◌, Option, Some, None, List, length, ℕ, ◌==◌, [], ◌∷◌, sum}
use Rattle.opid.specs.declared.stamp.Stamp.{Stamp}
use Rattle.opid.specs.declared.kind.OpKind.{OpKind}
use Rattle.opid.specs.declared.kind.OpKind.TheVariants.{Ins, Del}
use Rattle.opid.specs.declared.limits.TheConstants.{MAX_OPERATIONS}
use Rattle.opid.specs.declared.refusal.Refusal.{Refusal}
use Rattle.opid.specs.declared.refusal.Refusal.TheVariants.{Full, UnknownElement}
use Rattle.opid.specs.Stamps.{is_before}
use Rattle.opid.specs.Lawful.{parent_cause}
use Rattle.opid.specs.Operations.{Operation, stamp_of, has_element}

-- the parent or target is no element of the log, or the parent's stamp isn't smaller
abbrev pub element_refusal : List Operation → Stamp → OpKind → Option Refusal
element_refusal log s (Ins None ch) = None
element_refusal log s (Ins (Some p) ch) = parent_cause (has_element log p) (is_before p s)
element_refusal log s (Del target) = if not (has_element log target) then Some UnknownElement else None

-- why the operation is refused, memory apart; first, that the log has 131,072 operations
abbrev pub refusal_of : List Operation → Operation → Option Refusal
refusal_of log x = if nat_le MAX_OPERATIONS (length log) then Some Full else element_refusal log (stamp_of x) x.kind

-- the sum of the site's last operation among these, or this one
abbrev pub last_sum_or : ℕ → List Operation → ℕ → ℕ
last_sum_or n [] site = n
last_sum_or n (x ∷ xs) site = last_sum_or (if x.site == site then sum x.clock else n) xs site

-- the sum of the site's last operation, or 0 if there is none
abbrev pub last_sum : List Operation → ℕ → ℕ
last_sum log site = last_sum_or 0 log site
