-- What each step of the chain makes of the subcommand.
use Rattle.std.proofs.Common.{◌∙◌, ap₂}
use Rattle.std.proofs.lemmas.Result.{IfOk-weaker}
use Rattle.clap.specs.Words.{with_rule}
use Rattle.command_line.specs.CommandLine.{text_command}
use Rattle.command_line.proofs.words.text_command.Goals as goal

pub returns-clause-shape : goal.returns-clause-shape
unfolding text_command
returns-clause-shape c =
    IfOk-weaker c.arg.result _ _ (λ made h. h.shape c.version_arg-version.ensures.local
    ∙ ap₂ with_rule c.bare_text-text.ensures.shape c.version_arg-version.ensures.rule) c.arg.ensures
