-- What becomes of an operation that is delivered to a replica: the checks in their order, and how what is held back settles once one was
-- integrated (Roh, Jeon, Kim and Lee 2011; causal delivery). A part of a log, as another replica asks for it, is the server's own.
use Rattle.std.specs.Prelude.{nat_le, if◌then◌else◌, Option, Some, List, length, sum, ℕ, zero, suc, ◌+◌, None, [], ◌∷◌, ◌++◌, ◌≤◌, ◌⊎◌}
use Rattle.std.specs.Prelude.{Bool, true, false, ◌==◌, ◌&&◌, nat_lt, Result, Ok, Err, ◌||◌, take, drop}
use Rattle.std.specs.List.{AllByRecursion}
use Rattle.opid.specs.declared.limits.TheConstants.{MAX_OPERATIONS, MAX_HELD}
use Rattle.opid.specs.declared.refusal.Refusal.{Refusal}
use Rattle.opid.specs.declared.refusal.Refusal.TheVariants.{Full, NotRising, OwnSite, HoldFull, BadRange}
use Rattle.opid.specs.declared.delivery.Delivery.{Delivery}
use Rattle.opid.specs.declared.delivery.Delivery.TheVariants.{Took, Kept, Again}
use Rattle.opid.specs.Operations.{Operation, stamp_of}
use Rattle.opid.specs.Rising.{element_refusal, last_sum}
use Rattle.opid.specs.Delivery.{clock_of, is_ready}
use Rattle.opid.specs.Held.{first_ready, without_first_ready, NoneReady, look_for}
use Rattle.opid.specs.Kinds.{IsOperation}
use Rattle.opid.specs.Clocks.{entry}
use Rattle.opid.specs.Limits.{is_bad_count}

-- the log has 131,072 operations; the sum isn't above that of the site's last operation; or the parent or target doesn't do
abbrev pub refusal_of : List Operation → Operation → Option Refusal
refusal_of log x =
    if nat_le MAX_OPERATIONS (length log) then Some Full else (
    if nat_le (sum x.clock) (last_sum log x.site) then Some NotRising else
    element_refusal log (stamp_of x) x.kind)

-- the log, what is held back, and how many operations were integrated and how many dropped so far
pub record Settling : Type 0 where
  pub log : List Operation
  pub held : List Operation
  pub taken : ℕ
  pub dropped : ℕ

-- an operation that became ready is appended to the log, or else it is dropped
abbrev pub appended_or_dropped : Option Refusal → Operation → Settling → Settling
appended_or_dropped None x s = record s { log = s.log ++ x ∷ []; taken = s.taken + 1 }
appended_or_dropped (Some e) x s = record s { dropped = s.dropped + 1 }

-- what is held, without the first that is ready
abbrev pub taken_out : Settling → Settling
taken_out s = record s { held = without_first_ready (clock_of s.log) s.held }

-- one round with the operation that is ready, if there is one
abbrev pub round_with : Option Operation → Settling → Settling
round_with None s = s
round_with (Some x) s = appended_or_dropped (refusal_of s.log x) x (taken_out s)

-- one round: the first that is ready is taken out; nothing changes where the log is full or nothing is ready
abbrev pub round : Settling → Settling
round s = if nat_le MAX_OPERATIONS (length s.log) then s else round_with (first_ready (clock_of s.log) s.held) s

-- so many rounds
abbrev pub rounds : ℕ → Settling → Settling
rounds zero s = s
rounds (suc n) s = rounds n (round s)

-- round after round, until nothing changes: each takes one out of what is held, so there are at most as many as that
abbrev pub settle : Settling → Settling
settle s = rounds (length s.held) s

-- the log is full, or nothing that is held back is ready
abbrev pub IsSettled : Settling → Type 0
IsSettled s = (MAX_OPERATIONS ≤ length s.log) ⊎ NoneReady (clock_of s.log) s.held

-- each is an operation of one of 32 sites, which its own clock counts
abbrev pub AreOperations : List Operation → Type 0
AreOperations ops = AllByRecursion IsOperation ops

-- a replica: its site, its log, what is held back in order of arrival, and for how many operations there is memory, those
-- that are held included
pub record ReplicaState : Type 0 where
  pub site : ℕ
  pub log : List Operation
  pub held : List Operation
  pub reserved : ℕ

-- the outcome of a delivery, and the log and what is held after it
pub record Delivered : Type 0 where
  pub outcome : Result Delivery Refusal
  pub log : List Operation
  pub held : List Operation

-- nothing changes
abbrev pub unchanged : Result Delivery Refusal → List Operation → List Operation → Delivered
unchanged outcome log held = record { outcome = outcome; log = log; held = held }

-- what isn't ready is held back, unless 1,024 are
abbrev pub hold : List Operation → List Operation → Operation → Delivered
hold log held x = if nat_lt (length held) MAX_HELD then record { outcome = Ok Kept; log = log; held = held ++ x ∷ [] }
    else unchanged (Err HoldFull) log held

-- an operation was taken, and what it set free was settled
abbrev pub settled : Settling → Delivered
settled s = record { outcome = Ok (Took s.taken s.dropped); log = s.log; held = s.held }

-- what is ready is refused, or integrated, and then what is held settles
abbrev pub integrate : Option Refusal → List Operation → List Operation → Operation → Delivered
integrate (Some e) log held x = unchanged (Err e) log held
integrate None log held x = settled (settle (record { log = log ++ x ∷ []; held = held; taken = 1; dropped = 0 }))

-- an operation that is neither integrated nor held
abbrev pub deliver_new : List Operation → List Operation → Operation → Delivered
deliver_new log held x = if is_ready log x then integrate (refusal_of log x) log held x else hold log held x

-- what becomes of an operation whose number was looked up: it is refused, known, or new
abbrev pub deliver_found : Result Bool Refusal → List Operation → List Operation → Operation → Delivered
deliver_found (Err e) log held x = unchanged (Err e) log held
deliver_found (Ok true) log held x = unchanged (Ok Again) log held
deliver_found (Ok false) log held x = deliver_new log held x

-- it claims to be an operation of the replica's own site which that never made
abbrev pub claims_site : ℕ → List Operation → Operation → Bool
claims_site site log x = x.site == site && nat_lt (entry (clock_of log) site) (entry x.clock site)

-- an operation is delivered to the replica of a site
abbrev pub deliver : ℕ → List Operation → List Operation → Operation → Delivered
deliver site log held x = if claims_site site log x then unchanged (Err OwnSite) log held
    else deliver_found (look_for x (log ++ held)) log held x

-- how many operations a delivery integrated
abbrev pub taken_by : Delivery → ℕ
taken_by (Took taken dropped) = taken
taken_by Kept = 0
taken_by Again = 0

-- the operations from a place on, at most `max` of them, which is 1 to 64
abbrev pub part_of : List Operation → ℕ → ℕ → Result (List Operation) Refusal
part_of log after max = if nat_lt (length log) after || is_bad_count max then Err BadRange else Ok (take max (drop after log))
