-- How an entry's key and width are kept, and the least key of some entries.
use Rattle.std.specs.Prelude.{◌≡◌, ℕ, ◌+◌, ◌*◌, ◌<◌, ◌^◌, if◌then◌else◌, List, [], ◌∷◌, min, Some, slice_get}
use Rattle.counted_tree.specs.declared.entry.Entry.{Entry}

-- the least key among them, or where there is none 2^23, which is above each key
abbrev pub least_key : List Entry → ℕ
least_key [] = 2 ^ 23
least_key (x ∷ xs) = min x.key (least_key xs)

-- its element and its key have few enough binary digits to be kept
abbrev pub IsSmall : Entry → Type 0
IsSmall x = (x.elem < 2 ^ 17) × (x.key < 2 ^ 23)

-- the number that its key and its width are kept as
abbrev pub key_and_width_of : Entry → ℕ
key_and_width_of x = x.key * 2 + (if x.wide then 1 else 0)

-- it can be kept: its numbers are small, and that of its key and width stands at its element's place
abbrev pub IsKnown : List ℕ → Entry → Type 0
IsKnown keys_and_widths x = IsSmall x × (slice_get keys_and_widths x.elem ≡ Some (key_and_width_of x))
