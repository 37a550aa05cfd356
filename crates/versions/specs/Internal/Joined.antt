-- The list that the tree has for a version, and that of the log.
use Rattle.std.specs.Prelude.{◌≡◌, ◌≤◌, ◌+◌, ◌*◌, ◌==◌, ◌&&◌, nat_le, nat_lt, if◌then◌else◌, ℕ, Bool, true, false, List, [], ◌∷◌}
use Rattle.std.specs.Prelude.{map, take, length, Option, Some, None, encode_utf8}
use Rattle.opid.specs.declared.stamp.Stamp.{Stamp}
use Rattle.opid.specs.Operations.{Operation}
use Rattle.opid.specs.declared.edit.Edit.{Edit}
use Rattle.opid.specs.declared.edit.Edit.TheVariants.{Del, DelUnits, Nop}
use Rattle.rga_list.specs.Entries as rga
use Rattle.rga_list.specs.Listed.{listed}
use Rattle.counted_tree.specs.declared.entry.Entry.{Entry}
use Rattle.counted_tree.specs.Versions.{Versions, version_list}

-- a stamp as one number: where sites are below 32, numbers are in the order of stamps
abbrev pub key_of : Stamp → ℕ
key_of s = s.sum * 32 + s.site

-- whether a character has two units in UTF-16: those beyond U+FFFF have
abbrev pub is_wide : ℕ → Bool
is_wide ch = nat_le 0x10000 ch && nat_lt ch 0x110000

-- an entry of the linked order, as the tree lists it
abbrev pub plain : rga.Entry → Entry
plain e = record { elem = e.elem; shown = e.shown; wide = is_wide e.ch; key = key_of e.stamp }

-- the list of these operations
abbrev pub list_of : List Operation → List Entry
list_of ops = map plain (listed ops)

-- the tree has, for each version of the log, the list of its operations
pub record TellsVersions (log : List Operation) (tree : Versions) : Type 0 where
  pub many : length tree.lists ≡ length log + 1
  pub each : (v : ℕ) → v ≤ length log → version_list tree v ≡ list_of (take v log)

-- how many places a character has, as they are counted
abbrev pub width_in : Bool → ℕ → ℕ
width_in units ch = if units then (if is_wide ch then 2 else 1) else 1

-- how many places the shown elements before one have
abbrev pub places_before : Bool → ℕ → List rga.Entry → ℕ
places_before units k [] = 0
places_before units k (e ∷ es) =
    if e.elem == k then 0 else if e.shown then (places_before units k es + width_in units e.ch) else places_before units k es

-- the character of an entry, if there is one
abbrev pub char_of : Option rga.Entry → ℕ
char_of None = 0
char_of (Some x) = x.ch

-- the character of an element
abbrev pub char_at : List rga.Entry → ℕ → ℕ
char_at entries e = char_of (rga.entry_of e entries)

-- the edit of a deletion of element k, which was shown or not
abbrev pub deletion_of : Bool → Bool → ℕ → List rga.Entry → Edit
deletion_of units true k entries =
    if units then DelUnits (places_before true k entries) (width_in true (char_at entries k)) else Del (places_before false k entries)
deletion_of units false k entries = Nop

-- what an entry shows, in UTF-8
abbrev pub bytes_shown : rga.Entry → List ℕ
bytes_shown e = if e.shown then encode_utf8 e.ch else []
