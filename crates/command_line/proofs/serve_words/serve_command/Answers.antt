-- What each step of the chain makes of the subcommand.
use Rattle.std.proofs.Common.{◌≡◌, ◌∙◌, ap₂, codes}
use Rattle.std.proofs.lemmas.Result.{IfOk-weaker}
use Rattle.clap.specs.Words.{new_app, with_rule}
use Rattle.command_line.specs.CommandLine.{serve_command, port_option, site_option, conns_option, keep_option, every_option, origin_option}
use Rattle.command_line.specs.CommandLine.{flag_option}
use Rattle.command_line.proofs.serve_words.serve_command.Goals as goal

pub returns-clause-shape : goal.returns-clause-shape
unfolding serve_command
returns-clause-shape c =
    let of_line = with_rule (with_rule (with_rule (new_app (codes "serve")) port_option) site_option) conns_option in
    let of_renew = with_rule (with_rule (with_rule of_line keep_option) every_option) (flag_option (codes "renew")) in
    let of_origin = with_rule of_renew origin_option in
    let of_report = with_rule of_origin (flag_option (codes "report")) in
    let first : _ ≡ of_origin = c.in_ok-serve-2.ensures.shape c.origin_arg.ensures.local
    ∙ ap₂ with_rule c.in_ok-serve.ensures.shape c.origin_arg.ensures.rule in
    let second : _ ≡ of_report = c.in_ok-serve-3.ensures.shape c.flag_arg.ensures.local
    ∙ ap₂ with_rule first c.flag_arg.ensures.rule in
    IfOk-weaker c.arg-3.result _ _ (λ made h. h.shape c.name_arg.ensures.local
    ∙ ap₂ with_rule second c.name_arg.ensures.rule) c.arg-3.ensures
