-- The edit of each operation of a log: what it does to the text that was visible before it (Attiya and others 2016).
use Rattle.std.specs.Prelude.{ℕ, ◌+◌, Bool, false, if◌then◌else◌, List, [], ◌∷◌, ◌++◌, count_by}
use Rattle.std.specs.List.{list_any}
use Rattle.opid.specs.declared.stamp.Stamp.{Stamp}
use Rattle.opid.specs.declared.kind.OpKind as kind
use Rattle.opid.specs.declared.kind.OpKind.TheVariants as kinds
use Rattle.opid.specs.declared.edit.Edit.{Edit}
use Rattle.opid.specs.declared.edit.Edit.TheVariants.{Ins, Del, DelUnits, Nop}
use Rattle.opid.specs.Stamps.{is_same}
use Rattle.opid.specs.Operations.{Operation, Insertion, stamp_of}
use Rattle.opid.specs.Reading.{visible_in}

-- how many elements stand before the one with this stamp
abbrev pub place_of : Stamp → List Insertion → ℕ
place_of s [] = 0
place_of s (x ∷ xs) = if is_same s x.stamp then 0 else (place_of s xs + 1)

-- the edit that takes an element out of what is visible: from its place on, it has so many code units
abbrev pub taking_out : Bool → Stamp → List Insertion → Edit
taking_out units target shown =
    if units then DelUnits (place_of target shown) (count_by (λ x. is_same target x.stamp) shown) else Del (place_of target shown)

-- a deletion of an element that is visible takes it out; one of an element that was deleted before changes nothing
abbrev pub deletion_edit_in : Bool → Stamp → List Insertion → Edit
deletion_edit_in units target shown = if list_any (λ x. is_same target x.stamp) shown then taking_out units target shown else Nop

-- the edit of an operation with this stamp, from what was visible before it and what is visible after it, as they are counted
abbrev pub edit_of_in : Bool → Stamp → kind.OpKind → List Insertion → List Insertion → Edit
edit_of_in units s (kinds.Ins parent ch) before after = Ins (place_of s after) ch
edit_of_in units s (kinds.Del target) before after = deletion_edit_in units target before

-- the edit of x after these operations
abbrev pub edit_after_in : Bool → List Operation → Operation → Edit
edit_after_in units ops x = edit_of_in units (stamp_of x) x.kind (visible_in units ops) (visible_in units (ops ++ x ∷ []))

-- the edits of a log's further operations, in turn, of which `ops` are the first
abbrev pub edits_from_in : Bool → List Operation → List Operation → List Edit
edits_from_in units ops [] = []
edits_from_in units ops (x ∷ xs) = edit_after_in units ops x ∷ edits_from_in units (ops ++ x ∷ []) xs

-- the edits of a log, one for each operation
abbrev pub edits_in : Bool → List Operation → List Edit
edits_in units log = edits_from_in units [] log

-- the edit of an operation behind these, where characters are counted
abbrev pub edit_after : List Operation → Operation → Edit
edit_after ops x = edit_after_in false ops x

-- a log's edits where characters are counted
abbrev pub edits : List Operation → List Edit
edits log = edits_in false log
