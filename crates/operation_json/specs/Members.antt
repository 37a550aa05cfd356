-- The members of a JSON object, and steps that may be refused (RFC 8259, as `serde_json` reads it: the last value of a
-- repeated key stands).
use Rattle.std.specs.Prelude.{◌^◌, ℕ, nat_lt, Bool, true, ◌&&◌, if◌then◌else◌, Option, Some, None, option_and_then, Result, Ok, Err, List}
use Rattle.std.specs.Prelude.{bytes_eq}
use Rattle.std.specs.List.{list_any}
use Rattle.serde_json.specs.Data.{Data, Members, no_members, member}
use Rattle.serde_json.specs.Find.{get, as_number, as_u64, as_str, as_object}
use Rattle.opid.specs.declared.refusal.Refusal.{Refusal}
use Rattle.opid.specs.declared.refusal.Refusal.TheVariants.{BadField, BadJson}
use Rattle.std.specs.Str.{is_utf8}
use Rattle.serde_json.specs.Read.{read}

-- ---- a step that may be refused: the first refusal stands

-- goes on with the value, or ends with the refusal
infixl 10 ◌>>=◌
abbrev pub ◌>>=◌ : {A B : Type 0} → Result A Refusal → (A → Result B Refusal) → Result B Refusal
(Ok x) >>= f = f x
(Err e) >>= f = Err e

-- the value, or the refusal where there is none
abbrev pub or_refuse : {A : Type 0} → Refusal → Option A → Result A Refusal
or_refuse e (Some x) = Ok x
or_refuse e None = Err e

-- ---- the members of an object

-- the key is one of the row
abbrev pub is_known : List (List ℕ) → List ℕ → Bool
is_known row key = list_any (λ name. bytes_eq name key) row

-- each key is one of the row
abbrev pub are_among : List (List ℕ) → Members → Bool
are_among row no_members = true
are_among row (member key d ms) = is_known row key && are_among row ms

-- each key is one of the row, or there is no answer
abbrev pub within : List (List ℕ) → Members → Option (Unit {0})
within row ms = if are_among row ms then Some tt else None

-- an object with no key but those of the row; each of these is looked up besides
abbrev pub only_keys : List (List ℕ) → Data → Result (Unit {0}) Refusal
only_keys row d = or_refuse BadField (option_and_then (within row) (as_object d))

-- the text at a key, in UTF-8
abbrev pub text_at : List ℕ → Data → Result (List ℕ) Refusal
text_at key d = or_refuse BadField (option_and_then as_str (get key d))

-- the number, if it is below the limit
abbrev pub below : ℕ → ℕ → Option ℕ
below limit n = if nat_lt n limit then Some n else None

-- a number: whole, from 0 to 4,294,967,295, written with no sign, fraction or exponent
abbrev pub number_told : Option Data → Result ℕ Refusal
number_told d = or_refuse BadField (option_and_then (below (2 ^ 32)) (option_and_then as_u64 (option_and_then as_number d)))

-- the number at a key
abbrev pub number_at : List ℕ → Data → Result ℕ Refusal
number_at key d = number_told (get key d)

-- ---- a whole text

-- the value that the bytes are, which are UTF-8
abbrev pub json_of : List ℕ → Result Data Refusal
json_of bytes = if is_utf8 bytes then or_refuse BadJson (read bytes) else Err BadJson
