-- What is left of a JSON text behind a place of its bytes, as tokens (RFC 8259): the value of a `PlainReader`, and what is written there.
use Rattle.std.specs.Prelude.{◌≡◌, ◌≤◌, ◌<◌, ◌^◌, ◌+◌, ◌-◌, ℕ, List, ◌∷◌, length, take, drop, get_or, true, Some, encode_utf8}
use Rattle.std.specs.List.{list_all}
use Rattle.json.specs.Token.{Token, number}
use Rattle.json.specs.Text.{Within, code_unit, content, plain, prepend}
use Rattle.json.specs.Lex.{Mode, Place, fresh, after_value, after_comma, between, in_string, lex, punctuate, may_begin}
use Rattle.serde_json.specs.Data.{unsigned}
use Rattle.serde_json.specs.Read.{number_of}
use Rattle.json_bytes.specs.declared.plain.Place as standing
use Rattle.json_bytes.specs.declared.plain.Place.TheVariants.{Fresh, AfterValue, AfterComma}
use Rattle.json_bytes.specs.Plain.{is_plain}

-- the tokens of the bytes, behind such a place
abbrev pub tokens_behind : Place → List ℕ → List Token
tokens_behind p bytes = punctuate p (lex between bytes)

-- where a reader stands
abbrev pub spot_of : standing.Place → Place
spot_of Fresh = fresh
spot_of AfterValue = after_value
spot_of AfterComma = after_comma

-- a number is written from a place of the bytes on to another one
pub record WritesNumber (bytes : List ℕ) (at : ℕ) (n : ℕ) (end : ℕ) : Type 0 where
  pub text : List ℕ
  pub first : (p : Place) → may_begin p ≡ true → tokens_behind p (drop at bytes) ≡ number text ∷ tokens_behind after_value (drop end bytes)
  pub value : number_of text ≡ Some (unsigned n)
  pub small : n < 2 ^ 32
  pub within : end ≤ length bytes

-- from a place of the bytes on, behind its opening quote, a text stands that tells these bytes, and its closing quote at another place
pub record WritesText (bytes : List ℕ) (at : ℕ) (told : List ℕ) (end : ℕ) : Type 0 where
  pub is : content plain (drop at bytes) ≡ Some told
  pub closed : lex in_string (drop at bytes) ≡ lex between (drop (end + 1) bytes)
  pub within : end < length bytes

-- four hex digits from a place of the bytes on spell this code unit
pub record WritesUnit (bytes : List ℕ) (at : ℕ) (unit : ℕ) : Type 0 where
  pub is : code_unit (get_or bytes at 0) (get_or bytes (at + 1) 0) (get_or bytes (at + 2) 0) (get_or bytes (at + 3) 0) ≡ Some unit
  pub small : unit < 65536
  pub plainly : list_all is_plain (take 4 (drop at bytes)) ≡ true
  pub ascii : get_or bytes (at + 3) 0 < 128
  pub within : at + 4 ≤ length bytes

-- from a place of the bytes on, where a text goes on so, this character is written, up to another place
pub record WritesCharacter (how : Within) (mode : Mode) (bytes : List ℕ) (at : ℕ) (ch : ℕ) (end : ℕ) : Type 0 where
  pub is : content how (drop at bytes) ≡ prepend (encode_utf8 ch) (content plain (drop end bytes))
  pub passed : lex mode (drop at bytes) ≡ lex in_string (drop end bytes)
  pub ascii : get_or bytes (end - 1) 0 < 128
  pub order : at < end
  pub within : end ≤ length bytes
