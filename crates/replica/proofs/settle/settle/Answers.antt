-- The rounds that are left lead to the end; the last one changes nothing.
use Rattle.std.proofs.Common.{◌≡◌, ◌∙◌, ◌-◌, sym, arith}
use Rattle.opid.specs.Delivered.{Settling, round}
use Rattle.replica.specs.Internal.Kept.{settling_of}
use Rattle.replica.proofs.Rounds.{rounds-stay, rounds-step}
use Rattle.replica.proofs.settle.settle.Goals as goal

pub returns-then-not-round-clause-settled : goal.returns-then-not-round-clause-settled
returns-then-not-round-clause-settled c =
    let before : Settling = settling_of c.rounds.log c.rounds.held c.rounds.tally in
    let same : settling_of c.round.new.log c.round.new.held c.round.new.tally ≡ before = c.if-not-round.ensures.none cc in
    let stays : round before ≡ before = sym c.round.ensures.next ∙ same in
    same ∙ sym (rounds-stay (c.len-i-end.result - c.rounds._i) before stays) ∙ c.rounds.invariant.leads

pub rounds-preserved : goal.rounds-preserved
rounds-preserved c =
    let before : Settling = settling_of c.rounds.log c.rounds.held c.rounds.tally in
    let after : Settling = settling_of c.round.new.log c.round.new.held c.round.new.tally in
    record {
      leads = sym (rounds-step c.len-i-end.result c.rounds._i before after (omega arith) c.round.ensures.next) ∙ c.rounds.invariant.leads;
      enough = c.round.ensures.enough;
      less = omega (arith, c.round.ensures.less, c.rounds.invariant.less);
      longer = omega (arith, c.round.ensures.longer, c.rounds.invariant.longer);
      held = c.round.ensures.held ∙ c.rounds.invariant.held;
      lawful = c.round.ensures.lawful;
      taken = omega (arith, c.round.ensures.taken, c.rounds.invariant.taken);
      dropped = omega (arith, c.round.ensures.dropped, c.rounds.invariant.dropped);
    }
