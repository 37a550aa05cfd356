-- What was passed are digits, and the number so far is theirs.
use Rattle.std.proofs.Common.{◌≡◌, ◌≤◌, ◌-◌, take}
use Rattle.std.specs.Str.Parse.{AllDigits, digits_value}
use Rattle.json_bytes.proofs.plain_number.leading_number.Given as goal

abbrev pub decreases-loop-count : goal.decreases-loop-count
decreases-loop-count l = l.most - l.count

abbrev pub invariant-loop-count : goal.invariant-loop-count
invariant-loop-count l = record {
  within : l.count ≤ l.most;
  digits : AllDigits 10 (take l.count l.bytes);
  value : l.n ≡ digits_value 10 (take l.count l.bytes);
}
