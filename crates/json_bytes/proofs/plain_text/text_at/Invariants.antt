-- What was told so far, and what the rest tells, is what the whole tells.
use Rattle.std.proofs.Common.{◌≡◌, length, ◌-◌, ◌≤◌, drop}
use Rattle.std.specs.Str.{IsCharBoundary}
use Rattle.json.specs.Text.{content, plain, prepend}
use Rattle.json.specs.Lex.{in_string, lex}
use Rattle.json_bytes.proofs.plain_text.text_at.Given as goal

abbrev pub decreases-parts : goal.decreases-parts
decreases-parts l = length l.text - l.at

abbrev pub invariant-parts : goal.invariant-parts
invariant-parts l = record {
  told : content plain (drop l.fn.at l.text) ≡ prepend l.into.bytes (content plain (drop l.at l.text));
  passed : lex in_string (drop l.fn.at l.text) ≡ lex in_string (drop l.at l.text);
  boundary : IsCharBoundary l.text l.at;
  within : l.at ≤ length l.text;
}
