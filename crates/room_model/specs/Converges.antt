-- What holds of every world that events lead to: the strong list specification (Attiya and others 2016) over all its
-- replicas (Roh, Jeon, Kim and Lee 2011), and what editors are promised at each.
use Rattle.std.specs.Prelude.{◌≡◌, ◌⊎◌, ◌<◌, ◌≤◌, List, length, Contains}
use Rattle.std.specs.List.{AllByRecursion}
use Rattle.opid.specs.declared.limits.TheConstants.{MAX_OPERATIONS}
use Rattle.opid.specs.Operations.{Operation}
use Rattle.opid.specs.Delivery.{clock_of}
use Rattle.opid.specs.Reading.{reading}
use Rattle.opid.specs.Lawful.{IsPart}
use Rattle.opid.specs.Strong.{SiteLog, AreLawful, AreOfOneWorld, IsOfOne, HaveOneOrder, IsWhole}
use Rattle.opid.specs.Held.{NoneReady}
use Rattle.room_model.specs.History.{Account, mark, IsConsistent}
use Rattle.room_model.specs.Convergence.{EditorsConverge, EditorsKeepUp}
use Rattle.room_model.specs.Intention.{KeepsIntentions, OnlyGrows}
use Rattle.room_model.specs.World.{logs_of}
use Rattle.room_model.specs.Received.{got}

-- the logs of a world, none of which is too long
pub record AreLogs (logs : List SiteLog) : Type 0 where
  pub lawful : AreLawful logs
  pub world : AreOfOneWorld logs
  pub limit : AllByRecursion (λ a. length a.log ≤ MAX_OPERATIONS) logs

-- what a site received is in its log, or waits
pub record IsReceived (log held ops : List Operation) : Type 0 where
  pub stay : (x : Operation) → Contains ops x → Contains log x ⊎ Contains held x
  pub logged : IsPart log ops
  pub waiting : IsPart held ops

-- A room of a world: what it holds back are operations of the logs, and none of them is ready unless the log is full.
pub record IsSiteOf (logs : List SiteLog) (a : Account) : Type 0 where
  pub consistent : IsConsistent a
  pub marked : mark a.history ≤ length a.history
  pub held : (x : Operation) → Contains a.state.held x → IsOfOne logs x
  pub settled : (MAX_OPERATIONS ≤ length a.state.log) ⊎ NoneReady (clock_of a.state.log) a.state.held
  pub received : IsReceived a.state.log a.state.held (got a)

-- what holds of each world
pub record IsWorld (world : List Account) : Type 0 where
  pub logs : AreLogs (logs_of world)
  pub rooms : AllByRecursion (IsSiteOf (logs_of world)) world

-- ---- what follows

-- each log has just what its site received with its whole past, unless it is full
abbrev pub AreWhole : List Account → Type 0
AreWhole world = AllByRecursion (λ a. length a.state.log < MAX_OPERATIONS → IsWhole (got a) a.state.log) world

-- two sites that received the same, and whose logs aren't full, read the same
abbrev pub ReadTheSame : List Account → Type 0
ReadTheSame world = (a b : Account) → Contains world a → Contains world b → length a.state.log < MAX_OPERATIONS
    → length b.state.log < MAX_OPERATIONS → IsPart (got a) (got b) → IsPart (got b) (got a) → reading a.state.log ≡ reading b.state.log

-- What holds of a world: each room is the state that its legal history leads to, its log is lawful, the logs have one
-- order of elements, and each has just what its site received with its whole past. Editors at each site read what it
-- reads; and what they asked for stays in its log, an insertion at the place that it named.
pub record Converges (world : List Account) : Type 0 where
  pub consistent : AllByRecursion IsConsistent world
  pub one_order : HaveOneOrder (logs_of world)
  pub whole : AreWhole world
  pub same : ReadTheSame world
  pub editors_converge : AllByRecursion EditorsConverge world
  pub editors_keep_up : AllByRecursion EditorsKeepUp world
  pub keeps_intentions : AllByRecursion KeepsIntentions world
  pub only_grows : AllByRecursion OnlyGrows world
