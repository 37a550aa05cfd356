use Rattle.std.proofs.Common.{◌≡◌, length, ◌-◌, ◌≤◌, drop}
use Rattle.json.specs.Lex.{between, lex}
use Rattle.json_bytes.proofs.plain.behind_each_space.Given as goal

abbrev pub decreases-loop-at : goal.decreases-loop-at
decreases-loop-at l = l.most - l.at

abbrev pub invariant-loop-at : goal.invariant-loop-at
invariant-loop-at l = (lex between (drop l.at l.bytes) ≡ lex between (drop l.fn.at l.bytes)) × (l.at ≤ length l.bytes)
