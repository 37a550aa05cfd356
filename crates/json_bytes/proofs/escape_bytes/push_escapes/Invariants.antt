-- What is written so far goes on to all characters.
use Rattle.std.proofs.Common.{◌≡◌, ◌++◌, drop}
use Rattle.std.specs.Prelude.{encode_utf8_all}
use Rattle.json.specs.Print.{escape}
use Rattle.json_bytes.proofs.escape_bytes.push_escapes.Given as goal

abbrev pub invariant-loop-ch : goal.invariant-loop-ch
invariant-loop-ch l =
    l.out.items ++ escape (encode_utf8_all (drop l.ch-index l.chars)) ≡ l.fn.out.items ++ escape (encode_utf8_all l.chars)
