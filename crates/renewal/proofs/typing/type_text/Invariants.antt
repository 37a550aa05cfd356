use Rattle.std.proofs.Common.{◌≡◌, ◌≤◌, length}
use Rattle.std.specs.Str.{chars}
use Rattle.opid.specs.Lawful.{IsLawful}
use Rattle.renewal.specs.Typing.{typing_of}
use Rattle.renewal.proofs.Typed.{with_rest}
use Rattle.renewal.proofs.typing.type_text.Given as goal

-- what was typed, with the run of the rest, is the whole typing
abbrev pub invariant-loop-ch : goal.invariant-loop-ch
invariant-loop-ch l = record {
  whole : with_rest l.site (chars l.text) l.doc.log l.parent (length l.yielded) ≡ typing_of l.site (chars l.text);
  lawful : IsLawful l.doc.log;
  count : length l.doc.log ≡ length l.yielded;
  few : length (chars l.text) ≤ 131072;
  unreserved : l.doc.reserved ≡ 0;
}
