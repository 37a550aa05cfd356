-- What each step of the chain makes of the subcommand.
use Rattle.std.proofs.Common.{◌≡◌, ◌∙◌, ap₂, codes}
use Rattle.std.proofs.lemmas.Result.{IfOk-weaker}
use Rattle.clap.specs.Words.{new_app, with_rule}
use Rattle.command_line.specs.CommandLine.{flag_option, lines_command, site_or_zero_option}
use Rattle.command_line.proofs.words.lines_command.Goals as goal

pub returns-clause-shape : goal.returns-clause-shape
unfolding lines_command
returns-clause-shape c =
    let of_site = with_rule (new_app (codes "lines")) site_or_zero_option in
    let of_resume = with_rule of_site (flag_option (codes "resume")) in
    let first : _ ≡ of_site = c.in_ok-lines.ensures.shape c.site_or_zero_arg.ensures.local
    ∙ ap₂ with_rule c.new_command-lines.ensures.shape c.site_or_zero_arg.ensures.rule in
    let second : _ ≡ of_resume = c.in_ok-lines-2.ensures.shape c.flag_arg.ensures.local
    ∙ ap₂ with_rule first c.flag_arg.ensures.rule in
    IfOk-weaker c.arg-3.result _ _ (λ made h. h.shape c.flag_arg-2.ensures.local
    ∙ ap₂ with_rule second c.flag_arg-2.ensures.rule) c.arg-3.ensures
