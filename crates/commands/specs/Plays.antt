-- What a run of a plan does. The commands are the server's own.
use Rattle.std.specs.Prelude.{ℕ, List, Option, Result}
use Rattle.commands.specs.declared.stop.Stop.{Stop}
use Rattle.commands.specs.Played.{PlaysLines, PlaysText, PlaysWorld}
use Rattle.plans.specs.declared.plan.Plan.{Plan}
use Rattle.plans.specs.declared.plan.Plan.TheVariants.{Lines, Text, World, Serve}

-- it runs from a reader to a writer, as all do but `serve`
abbrev pub IsPlayed : Plan → Type 0
IsPlayed (Serve port site conns keep every renew origins report names) = ⊥
IsPlayed plan = Unit {0}

-- what a run of a plan does
abbrev pub Plays : {T : Type 0} → Plan → List ℕ → Option (List ℕ) → List ℕ → Result T Stop → Type 0
Plays (Lines site resume snapshot) got left written end = PlaysLines site resume snapshot got left written end
Plays (Text version) got left written end = PlaysText version got left written end
Plays (World sites) got left written end = PlaysWorld sites got left written end
Plays (Serve port site conns keep every renew origins report names) got left written end = ⊥
