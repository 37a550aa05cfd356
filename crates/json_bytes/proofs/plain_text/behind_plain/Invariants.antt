use Rattle.std.proofs.Common.{◌≡◌, true, ◌-◌, ◌≤◌, take, drop}
use Rattle.std.specs.List.{list_all}
use Rattle.json_bytes.specs.Plain.{is_plain}
use Rattle.json_bytes.proofs.plain_text.behind_plain.Given as goal

abbrev pub decreases-loop-end : goal.decreases-loop-end
decreases-loop-end l = l.most - l.end

abbrev pub invariant-loop-end : goal.invariant-loop-end
invariant-loop-end l = record {
  plain : list_all is_plain (take (l.end - l.fn.at) (drop l.fn.at l.bytes)) ≡ true;
  order : l.fn.at ≤ l.end;
  within : l.end ≤ l.most;
}
