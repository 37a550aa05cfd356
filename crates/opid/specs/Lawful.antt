-- Which logs are lawful, and which sets of operations make one tree (Roh and others 2011; Attiya and others 2016).
use Rattle.std.specs.Prelude.{◌≡◌, ◌<◌, Bool, true, false, not, if◌then◌else◌, Option, Some, None, List, [], ◌∷◌, ◌++◌, length, sum}
use Rattle.std.specs.Prelude.{Contains}
use Rattle.std.specs.List.{AllByRecursion}
use Rattle.opid.specs.declared.stamp.Stamp.{Stamp}
use Rattle.opid.specs.declared.kind.OpKind.{OpKind}
use Rattle.opid.specs.declared.kind.OpKind.TheVariants.{Ins, Del}
use Rattle.opid.specs.declared.refusal.Refusal.{Refusal}
use Rattle.opid.specs.declared.refusal.Refusal.TheVariants.{UnknownElement, NotOlder}
use Rattle.opid.specs.declared.site.TheConstants.{SITES}
use Rattle.opid.specs.Stamps.{is_before, is_same}
use Rattle.opid.specs.Operations.{Operation, Insertion, stamp_of, insertions, has_element}
use Rattle.opid.specs.Delivery.{is_ready}

-- What an operation may do among these: an insertion's parent is the head or an element with a smaller stamp,
-- a deletion's target is an element.
abbrev pub IsAllowed : List Operation → Stamp → OpKind → Type 0
IsAllowed ops s (Ins None ch) = Unit {0}
IsAllowed ops s (Ins (Some p) ch) = (has_element ops p ≡ true) × (is_before p s ≡ true)
IsAllowed ops s (Del target) = has_element ops target ≡ true

-- why an insertion after an element is refused: that is not there, or its stamp isn't smaller
abbrev pub parent_cause : Bool → Bool → Option Refusal
parent_cause is_there is_older = if not is_there then Some UnknownElement else if not is_older then Some NotOlder else None

-- its sum is above the sum of each of its site's operations
abbrev pub IsRisingAt : List Operation → Operation → Type 0
IsRisingAt ops x = AllByRecursion (λ y. y.site ≡ x.site → sum y.clock < sum x.clock) ops

-- x may follow these operations in a log
pub record MayFollow (ops : List Operation) (x : Operation) : Type 0 where
  pub site : x.site < SITES
  pub width : length x.clock ≡ SITES
  pub ready : is_ready ops x ≡ true
  pub rising : IsRisingAt ops x
  pub allowed : IsAllowed ops (stamp_of x) x.kind

-- each of the operations may follow those before it, of which `ops` are the first
abbrev pub GoesOn : List Operation → List Operation → Type 0
GoesOn ops [] = Unit {0}
GoesOn ops (x ∷ xs) = MayFollow ops x × GoesOn (ops ++ x ∷ []) xs

-- a log is lawful: each operation may follow those before it
abbrev pub IsLawful : List Operation → Type 0
IsLawful log = GoesOn [] log

-- no two have one stamp
abbrev pub AreApart : List Insertion → Type 0
AreApart [] = Unit {0}
AreApart (x ∷ xs) = AllByRecursion (λ y. is_same x.stamp y.stamp ≡ false) xs × AreApart xs

-- A set of operations, in any order: no two insertions have one stamp, each parent is the head or an element with
-- a smaller stamp, and each target is an element. Every lawful log is such a set (`laws::lawful_logs`).
pub record IsSound (ops : List Operation) : Type 0 where
  pub apart : AreApart (insertions ops)
  pub allowed : AllByRecursion (λ x. IsAllowed ops (stamp_of x) x.kind) ops

-- each of the first is one of the second
abbrev pub IsPart : List Operation → List Operation → Type 0
IsPart part whole = (x : Operation) → Contains part x → Contains whole x
