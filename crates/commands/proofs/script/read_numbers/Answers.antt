-- Each number stands before the next space.
use Rattle.std.proofs.Common.{◌∙◌, sym, decimal}
use Rattle.commands.specs.Script.{spaced}
use Rattle.commands.proofs.Words.{one_cut, if_none, decimal_is_a_word}
use Rattle.commands.proofs.script.read_numbers.Goals as goal

pub returns-in_err-second-clause-none : goal.returns-in_err-second-clause-none
returns-in_err-second-clause-none c =
    let first = c.in_ok-first.ensures.some in
    if_none c.from_residual-in_err-second.result
    (λ a b d fa fb fd is. c.in_err-second.ensures.none b (decimal d) fb
    (one_cut (decimal c.in_ok-first.first) (decimal a) c.in_ok-first.rest.now (spaced (decimal b) (decimal d))
    (decimal_is_a_word c.in_ok-first.first first.0) (decimal_is_a_word a fa) (sym first.1 ∙ is)).1)

pub returns-in_err-third-clause-none : goal.returns-in_err-third-clause-none
returns-in_err-third-clause-none c =
    let first = c.in_ok-first.ensures.some in
    let second = c.in_ok-second.ensures.some in
    if_none c.from_residual-in_err-third.result
    (λ a b d fa fb fd is. c.in_err-third.ensures.none d fd
    (one_cut (decimal c.in_ok-second.second) (decimal b) c.in_ok-second.last.now (decimal d)
    (decimal_is_a_word c.in_ok-second.second second.0) (decimal_is_a_word b fb)
    (sym second.1 ∙ (one_cut (decimal c.in_ok-first.first) (decimal a) c.in_ok-first.rest.now (spaced (decimal b) (decimal d))
    (decimal_is_a_word c.in_ok-first.first first.0) (decimal_is_a_word a fa) (sym first.1 ∙ is)).1)).1)
