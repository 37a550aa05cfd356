-- What is written so far goes on to all edits, and those so far are within their ranges.
use Rattle.std.proofs.Common.{◌≡◌, ◌++◌, drop, take, map}
use Rattle.std.specs.List.{AllByRecursion}
use Rattle.wire_json.specs.Text.{IsEditInRange, edit_text}
use Rattle.operation_json.specs.Text.{more}
use Rattle.wire_json.proofs.reply.bytes.push_more.Given as goal

abbrev pub invariant-loop-edit : goal.invariant-loop-edit
invariant-loop-edit l = record {
  text : l.out.items ++ more (map edit_text (drop l.edit-index l.es)) ≡ l.fn.out.items ++ more (map edit_text l.es);
  in_range : AllByRecursion IsEditInRange (take l.edit-index l.es);
}
