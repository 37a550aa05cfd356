-- The text at the flag's name.
use Rattle.std.proofs.Common.{◌∙◌, ap}
use Rattle.clap.specs.Words.{found_of}
use Rattle.clap.proofs.WalkLemmas.{first_value-rows}
use Rattle.command_line.specs.CommandLine.{is_set}
use Rattle.command_line.proofs.words.flag.Goals as goal

pub returns-in-Some : goal.returns-in-Some
returns-in-Some c = c.eq.ensures ∙ ap is_set (c.in-Some.ensures ∙ first_value-rows (found_of c.args.used.now) c.args.name.now)

pub returns-in-None : goal.returns-in-None
returns-in-None c = ap is_set (c.in-None.ensures ∙ first_value-rows (found_of c.args.used.now) c.args.name.now)
