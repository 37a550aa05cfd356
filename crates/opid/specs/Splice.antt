-- The splice of a list by an edit, and by edits in turn (Attiya and others 2016: insertion and deletion at a position).
use Rattle.std.specs.Prelude.{ℕ, ◌+◌, Bool, true, false, not, ◌&&◌, ◌==◌, nat_le, nat_lt, if◌then◌else◌, Option, Some, None}
use Rattle.std.specs.Prelude.{option_and_then, List, [], ◌∷◌, ◌++◌, length, remove, take, drop, slice_get}
use Rattle.std.specs.Option.{option_map_or}
use Rattle.std.specs.Char.Utf16.{is_low_surrogate}
use Rattle.opid.specs.declared.edit.Edit.{Edit}
use Rattle.opid.specs.declared.edit.Edit.TheVariants.{Ins, Del, DelUnits, Nop}
use Rattle.opid.specs.Units.{items_of}

-- the place stands inside a pair of code units; where characters are counted, none does
abbrev pub is_inside : Bool → List ℕ → ℕ → Bool
is_inside units text k = units && option_map_or is_low_surrogate (slice_get text k) false

-- how many code units the character at a place has
abbrev pub width_at : List ℕ → ℕ → ℕ
width_at text k = if is_inside true text (k + 1) then 2 else 1

-- The text after an edit, both as they are counted. An insertion's place is at most the length, a deletion's is below
-- it, neither is inside a pair, and a deletion names all that its character has; else there is no value.
abbrev pub apply_in : Bool → List ℕ → Edit → Option (List ℕ)
apply_in units text (Ins k ch) =
    if not (is_inside units text k) && nat_le k (length text) then Some (take k text ++ (items_of units ch ++ drop k text)) else None
apply_in units text (Del k) = if not units && nat_lt k (length text) then Some (remove text k) else None
apply_in units text (DelUnits k w) =
    if units && (not (is_inside units text k) && (nat_lt k (length text) && w == width_at text k))
    then Some (take k text ++ drop (k + w) text) else None
apply_in units text Nop = Some text

-- the text after edits, one after another
abbrev pub play_in : Bool → List ℕ → List Edit → Option (List ℕ)
play_in units text [] = Some text
play_in units text (e ∷ es) = option_and_then (λ t. play_in units t es) (apply_in units text e)

-- the same of a text that is counted in characters
abbrev pub apply : List ℕ → Edit → Option (List ℕ)
apply text e = apply_in false text e

-- the text after the edits, one after another, where characters are counted; none where one of them does not apply
abbrev pub play : List ℕ → List Edit → Option (List ℕ)
play text es = play_in false text es
