-- How the program ends: its statuses and last lines are the server's own.
use Rattle.std.specs.Prelude.{ℕ, Bool, true, false, Result, Ok, Err}
use Rattle.line_engine.specs.declared.fault.ServeFault.TheVariants.{Write}
use Rattle.commands.specs.declared.stop.Stop.{Stop}
use Rattle.commands.specs.declared.stop.Stop.TheVariants.{Fault}
use Rattle.plans.specs.declared.fault.PlanFault.TheVariants.{Help, Words, Memory}
use Rattle.commands.specs.declared.ending.Ending.{Ending}
use Rattle.commands.specs.declared.ending.Ending.TheVariants.{Done, Unplanned, Stopped}

-- how the run of a plan ends
abbrev pub ending_of : Result (Unit {0}) Stop → Ending
ending_of (Ok done) = Done
ending_of (Err why) = Stopped why

-- how the program ends, once what it tells on standard output was printed or couldn't be: help that couldn't be is a write fault
abbrev pub once_printed : Bool → Ending → Ending
once_printed true ending = ending
once_printed false (Unplanned (Help text)) = Stopped (Fault Write)
once_printed false ending = ending

-- the program's status
abbrev pub status_of : Ending → ℕ
status_of Done = 0
status_of (Unplanned (Help text)) = 0
status_of (Unplanned (Words text)) = 2
status_of (Unplanned Memory) = 1
status_of (Stopped why) = 1

-- it is told on standard output, not on standard error
abbrev pub is_output : Ending → Bool
is_output Done = false
is_output (Unplanned (Help text)) = true
is_output (Unplanned (Words text)) = false
is_output (Unplanned Memory) = false
is_output (Stopped why) = false
