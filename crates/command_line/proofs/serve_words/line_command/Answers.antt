-- What each step of the chain makes of the subcommand.
use Rattle.std.proofs.Common.{◌≡◌, ◌∙◌, ap, ap₂, codes}
use Rattle.std.proofs.lemmas.Result.{IfOk-weaker}
use Rattle.clap.specs.Words.{new_app, rule_of, with_rule}
use Rattle.clap.specs.declared.builder.arg.Arg.{Arg}
use Rattle.command_line.specs.CommandLine.{port_option, site_option}
use Rattle.command_line.proofs.serve_words.line_command.Goals as goal

pub returns-clause-shape : goal.returns-clause-shape
returns-clause-shape c =
    let of_port = with_rule (new_app (codes "serve")) port_option in
    let of_site = with_rule of_port site_option in
    let first : _ ≡ of_port = c.in_ok-serve.ensures.shape c.port_arg.ensures.local
    ∙ ap₂ with_rule c.new_command-serve.ensures.shape c.port_arg.ensures.rule in
    let local = ap (λ (a : Arg). a.global) c.help.ensures ∙ c.site_arg.ensures.local in
    let second : _ ≡ of_site = c.in_ok-serve-2.ensures.shape local
    ∙ ap₂ with_rule first (ap rule_of c.help.ensures ∙ c.site_arg.ensures.rule) in
    IfOk-weaker c.arg-3.result _ _ (λ made h. h.shape c.conns_arg.ensures.local
    ∙ ap₂ with_rule second c.conns_arg.ensures.rule) c.arg-3.ensures
