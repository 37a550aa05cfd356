-- The option is that of a site, with a value where it isn't given.
use Rattle.std.proofs.Common.{◌∙◌, ◌∷◌, [], ap, codes}
use Rattle.clap.specs.Words.{Rule, rule_of}
use Rattle.command_line.proofs.words.site_or_zero_arg.Goals as goal

pub returns-clause-rule : goal.returns-clause-rule
returns-clause-rule c =
    ap rule_of c.default_value.ensures ∙ ap (λ (r : Rule). record r { defaults = codes "0" ∷ [] }) c.site_arg.ensures.rule
