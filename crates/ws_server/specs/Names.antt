-- The names that a hall's rooms may have, which are the server's own rule.
use Rattle.std.specs.Prelude.{ℕ, ◌&&◌, ◌||◌, ◌==◌, Bool, true, not, nat_lt, List, [], ◌∷◌, length, String, string_bytes, string_eq}
use Rattle.std.specs.List.{list_all, list_any}
use Rattle.std.specs.Char.{is_ascii_lowercase, is_ascii_digit}

-- a letter from `a` to `z`, a digit or `-`, in UTF-8
abbrev pub is_name_byte : ℕ → Bool
is_name_byte byte = is_ascii_lowercase byte || (is_ascii_digit byte || (byte == 45))

-- 1 to 32 of these
abbrev pub is_name : List ℕ → Bool
is_name name = not (length name == 0) && (not (nat_lt 32 (length name)) && list_all is_name_byte name)

-- no name comes twice
abbrev pub are_different : {Z : Type 0} → List (String Z) → Bool
are_different [] = true
are_different (name ∷ names) = not (list_any (λ other. string_eq other name) names) && are_different names

-- 1 to 64 different names
abbrev pub names_fit : {Z : Type 0} → List (String Z) → Bool
names_fit names =
    not (length names == 0) && (not (nat_lt 64 (length names))
    && (list_all (λ name. is_name (string_bytes name)) names && are_different names))
