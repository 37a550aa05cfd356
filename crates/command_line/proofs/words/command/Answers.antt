-- What the last steps of the chain make of the command line.
use Rattle.std.proofs.Common.{◌≡◌, ◌∙◌, ap, ap₂, codes, true}
use Rattle.clap.specs.Words.{App, new_app, with_subcommand}
use Rattle.clap.specs.Simple.{app_of_fields, on_top}
use Rattle.command_line.specs.CommandLine.{rgatext, lines_command, text_command, world_command, serve_command}
use Rattle.command_line.proofs.words.command.Goals as goal

pub returns : goal.returns
unfolding rgatext
returns c =
    let of_world = with_subcommand (with_subcommand (with_subcommand (new_app (codes "rgatext")) lines_command.top) text_command.top)
    world_command.top in
    let last : _ ≡ with_subcommand of_world serve_command.top = c.in_ok-top-2.ensures.shape c.in_ok-serve.ensures.local
    ∙ ap₂ with_subcommand c.in_ok-top.ensures (ap (λ (a : App). a.top) c.in_ok-serve.ensures.shape) in
    let required = ap app_of_fields c.subcommand_required.ensures
    ∙ ap (λ (a : App). on_top (λ s. record s { subcommand_required = true }) a) last in
    ap app_of_fields c.version.ensures ∙ ap (λ (a : App). on_top (λ s. record s { has_version = true }) a) required
