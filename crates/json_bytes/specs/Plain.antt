-- What a `PlainReader` tells of the value that it has read, and what a key may have (RFC 8259).
use Rattle.std.specs.Prelude.{◌≡◌, ℕ, zero, suc, ◌<◌, Bool, List, Some, length, nat_le, ◌&&◌, not, ◌==◌}
use Rattle.json.specs.Token.{Token}
use Rattle.json.specs.Json as json
use Rattle.serde_json.specs.Data.{Data}
use Rattle.serde_json.specs.Read.{of_json}

-- so many levels more
abbrev pub deeper : ℕ → ℕ → ℕ
deeper zero n = n
deeper (suc k) n = suc (deeper k n)

-- of the tokens `old` this value comes first, which has no more than so many levels, and `new` are the rest
pub record Comes (levels : ℕ) (old : List Token) (d : Data) (new : List Token) : Type 0 where
  pub tree : json.Json
  pub read : (depth : ℕ) → json.value (deeper levels depth) old ≡ Some (tree, new)
  pub is : of_json tree ≡ Some d
  pub shorter : length new < length old

-- the byte stands for itself in a text: it is no quote, no backslash and no control character
abbrev pub is_plain : ℕ → Bool
is_plain x = nat_le 32 x && not (x == 34) && not (x == 92)
