-- Characters in quotes (RFC 8259).
use Rattle.std.specs.Prelude.{ℕ, List, encode_utf8_all}
use Rattle.json.specs.Print.{quoted}

-- characters in quotes, in UTF-8, with JSON's shortest escapes
abbrev pub quote : List ℕ → List ℕ
quote x = quoted (encode_utf8_all x)
