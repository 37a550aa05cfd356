-- A number stands before the first space.
use Rattle.std.proofs.Common.{◌∙◌, sym, decimal}
use Rattle.commands.proofs.Words.{one_cut, no_cut, if_none, decimal_is_a_word}
use Rattle.commands.proofs.script.split_number.Goals as goal

pub returns-in_err-word-clause-none : goal.returns-in_err-word-clause-none
returns-in_err-word-clause-none c =
    if_none c.from_residual.result (λ n rest fits is. no_cut c.args.bytes.now (decimal n) rest c.in_err-word.ensures.none is)

pub returns-in_err-number-clause-none : goal.returns-in_err-number-clause-none
returns-in_err-number-clause-none c =
    let first = c.in_ok-word.ensures.some in
    if_none c.from_residual-in_err-number.result
    (λ n rest fits is. c.in_err-number.ensures.none n fits (one_cut c.in_ok-word.word.now (decimal n) c.in_ok-word.rest.now rest first.0
    (decimal_is_a_word n fits) (sym first.1 ∙ is)).0)
