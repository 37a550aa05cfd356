-- Why operations that are asked for by a place in a version of a log are refused, memory apart: the first of the
-- causes, in this order. A place counts characters, as in Attiya and others 2016, or UTF-16 code units; the limits are the
-- server's own.
use Rattle.std.specs.Prelude.{ℕ, ◌+◌, Bool, true, false, ◌||◌, nat_lt, if◌then◌else◌, Option, Some, None, List, length, take, drop}
use Rattle.opid.specs.declared.limits.TheConstants.{MAX_OPERATIONS}
use Rattle.opid.specs.declared.refusal.Refusal.{Refusal}
use Rattle.opid.specs.declared.refusal.Refusal.TheVariants.{BadVersion, BadPlace, BadText, BadCount, Full}
use Rattle.opid.specs.Limits.{is_bad_count}
use Rattle.opid.specs.Operations.{Operation}
use Rattle.opid.specs.Reading.{visible_in_at, reading_in_at}
use Rattle.opid.specs.Splice.{is_inside}
use Rattle.opid.specs.Asked.{each_once}

-- place k of version v is inside a pair, or above the version's length
abbrev pub is_bad_place : Bool → List Operation → ℕ → ℕ → Bool
is_bad_place units log v k = is_inside units (reading_in_at units log v) k || nat_lt (length (visible_in_at units log v)) k

-- the characters are to be put in at place k of version v: the version is above the newest, there is no character or
-- more than 64, the place is none of the version, the log would exceed 131,072 operations
abbrev pub insertion_refusal_in : Bool → List Operation → ℕ → ℕ → List ℕ → Option Refusal
insertion_refusal_in units log v k chars =
    if nat_lt (length log) v then Some BadVersion
    else if is_bad_count (length chars) then Some BadText
    else if is_bad_place units log v k then Some BadPlace
    else if nat_lt MAX_OPERATIONS (length log + length chars) then Some Full
    else None

-- how many elements stand at the c places from place k of version v on
abbrev pub element_count : Bool → List Operation → ℕ → ℕ → ℕ → ℕ
element_count units log v k c = if units then length (each_once true (take c (drop k (visible_in_at true log v)))) else c

-- what stands at c places from place k of version v on is to be deleted: the version is above the newest, the count is 0 or
-- above 64, an end is none of the version's places, the log would exceed 131,072 operations
abbrev pub deletion_refusal_in : Bool → List Operation → ℕ → ℕ → ℕ → Option Refusal
deletion_refusal_in units log v k c =
    if nat_lt (length log) v then Some BadVersion
    else if is_bad_count c then Some BadCount
    else if is_inside units (reading_in_at units log v) k || is_bad_place units log v (k + c) then Some BadPlace
    else if nat_lt MAX_OPERATIONS (length log + element_count units log v k c) then Some Full
    else None

-- the same where characters are counted
abbrev pub insertion_refusal : List Operation → ℕ → ℕ → List ℕ → Option Refusal
insertion_refusal log v k chars = insertion_refusal_in false log v k chars

-- why a deletion is refused where characters are counted
abbrev pub deletion_refusal : List Operation → ℕ → ℕ → ℕ → Option Refusal
deletion_refusal log v k c = deletion_refusal_in false log v k c
