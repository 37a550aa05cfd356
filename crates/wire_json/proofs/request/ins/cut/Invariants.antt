-- what is left is a text, and has the other characters
use Rattle.std.proofs.Common.{◌≡◌, drop}
use Rattle.std.specs.Str.{chars}
use denote.Shadow.{shadow}
use denote.Text.{Utf8}
use Rattle.wire_json.proofs.request.ins.cut.Given as goal

abbrev pub invariant-loop-count : goal.invariant-loop-count
invariant-loop-count l = shadow (Utf8 l.rest) × (chars l.rest ≡ drop l._count (chars l.text))
