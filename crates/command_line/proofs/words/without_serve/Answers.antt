-- What each step of the chain makes of the command line. The right sides are given: to find them takes longer than all else here.
use Rattle.std.proofs.Common.{◌≡◌, ◌∙◌, ap, ap₂, codes}
use Rattle.std.proofs.lemmas.Result.{IfOk-weaker}
use Rattle.clap.specs.Words.{App, new_app, with_subcommand}
use Rattle.command_line.specs.CommandLine.{lines_command, text_command}
use Rattle.command_line.proofs.words.without_serve.Goals as goal

pub returns : goal.returns
returns c =
    let of_lines = with_subcommand (new_app (codes "rgatext")) lines_command.top in
    let of_text = with_subcommand of_lines text_command.top in
    let first : _ ≡ of_lines = c.in_ok-top.ensures.shape c.in_ok-lines.ensures.local
    ∙ ap₂ with_subcommand c.new_command-top.ensures.shape (ap (λ (a : App). a.top) c.in_ok-lines.ensures.shape) in
    let second : _ ≡ of_text = c.in_ok-top-2.ensures.shape c.in_ok-text.ensures.local
    ∙ ap₂ with_subcommand first (ap (λ (a : App). a.top) c.in_ok-text.ensures.shape) in
    IfOk-weaker c.subcommand-3.result _ _ (λ made h. h.shape c.in_ok-world.ensures.local
    ∙ ap₂ with_subcommand second (ap (λ (a : App). a.top) c.in_ok-world.ensures.shape)) c.subcommand-3.ensures
