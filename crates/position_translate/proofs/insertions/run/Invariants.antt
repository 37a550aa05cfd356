use Rattle.std.proofs.Common.{◌≡◌, ◌+◌, ◌≤◌, ◌++◌, length, sum, drop}
use Rattle.std.specs.Str.{chars}
use Rattle.opid.specs.Asked.{insertion_run}
use Rattle.position_translate.proofs.Asking.{known}
use Rattle.position_translate.proofs.insertions.run.Given as goal

-- what was made, with the run of the rest, is the whole run
abbrev pub invariant-loop-ch : goal.invariant-loop-ch
invariant-loop-ch l = record {
  whole : l.ops.items ++ insertion_run l.site (known l.clock l.ops.items) l.parent (drop (length l.yielded) (chars l.text))
      ≡ insertion_run l.site l.clock l.initial.parent (chars l.text);
  few : sum (known l.clock l.ops.items) + length (chars l.text) ≤ 131072 + length l.yielded;
}
