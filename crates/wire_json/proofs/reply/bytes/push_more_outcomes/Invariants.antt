-- What is written so far goes on to all outcomes, and those so far are within their ranges.
use Rattle.std.proofs.Common.{◌≡◌, ◌++◌, drop, take, map}
use Rattle.std.specs.List.{AllByRecursion}
use Rattle.wire_json.specs.Text.{IsOutcomeInRange, outcome_text}
use Rattle.operation_json.specs.Text.{more}
use Rattle.wire_json.proofs.reply.bytes.push_more_outcomes.Given as goal

abbrev pub invariant-loop-outcome : goal.invariant-loop-outcome
invariant-loop-outcome l = record {
  text : l.out.items ++ more (map outcome_text (drop l.outcome-index l.outcomes)) ≡ l.fn.out.items ++ more
      (map outcome_text l.outcomes);
  in_range : AllByRecursion IsOutcomeInRange (take l.outcome-index l.outcomes);
}
