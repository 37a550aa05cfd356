-- What each step of the chain makes of the subcommand.
use Rattle.std.proofs.Common.{◌∙◌, ap₂}
use Rattle.std.proofs.lemmas.Result.{IfOk-weaker}
use Rattle.clap.specs.Words.{with_rule}
use Rattle.command_line.specs.CommandLine.{world_command}
use Rattle.command_line.proofs.words.world_command.Goals as goal

pub returns-clause-shape : goal.returns-clause-shape
unfolding world_command
returns-clause-shape c =
    IfOk-weaker c.arg.result _ _ (λ made h. h.shape c.sites_arg-sites.ensures.local
    ∙ ap₂ with_rule c.new_command-world.ensures.shape c.sites_arg-sites.ensures.rule) c.arg.ensures
