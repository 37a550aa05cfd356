-- What each step of the chain makes of the subcommand.
use Rattle.std.proofs.Common.{◌≡◌, ◌∙◌, ap₂, codes}
use Rattle.std.proofs.lemmas.Result.{IfOk-weaker}
use Rattle.clap.specs.Words.{new_app, with_rule}
use Rattle.command_line.specs.CommandLine.{port_option, site_option, conns_option, keep_option, every_option}
use Rattle.command_line.proofs.serve_words.kept_command.Goals as goal

pub returns-clause-shape : goal.returns-clause-shape
returns-clause-shape c =
    let of_line = with_rule (with_rule (with_rule (new_app (codes "serve")) port_option) site_option) conns_option in
    let of_keep = with_rule of_line keep_option in
    let first : _ ≡ of_keep = c.in_ok-serve-2.ensures.shape c.keep_arg.ensures.local
    ∙ ap₂ with_rule c.in_ok-serve.ensures.shape c.keep_arg.ensures.rule in
    let second : _ ≡ with_rule of_keep every_option = c.in_ok-serve-3.ensures.shape c.every_arg.ensures.local
    ∙ ap₂ with_rule first c.every_arg.ensures.rule in
    IfOk-weaker c.arg-3.result _ _ (λ made h. h.shape c.flag_arg.ensures.local
    ∙ ap₂ with_rule second c.flag_arg.ensures.rule) c.arg-3.ensures
