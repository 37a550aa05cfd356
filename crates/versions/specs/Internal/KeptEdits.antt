-- An edit as it is kept, in both ways of counting places.
use Rattle.std.specs.Prelude.{ℕ, Bool, ◌/◌, ◌%◌, ◌^◌, ◌==◌, if◌then◌else◌}
use Rattle.opid.specs.declared.edit.Edit.{Edit}
use Rattle.opid.specs.declared.edit.Edit.TheVariants.{Ins, Del, DelUnits, Nop}
use Rattle.opid.specs.Units.{is_character}
use Rattle.versions.specs.declared.kept_edit.KeptEdit.{KeptEdit}

-- the edit of a kind: 0 puts a character in, 1 and 2 take one of so many units out, and 3 changes nothing
abbrev pub edit_by : Bool → ℕ → ℕ → ℕ → Edit
edit_by units kind place ch =
    if kind == 0 then Ins place ch else if kind == 3 then Nop else if units then DelUnits place kind else Del place

-- its place, in units or in characters
abbrev pub place_in : Bool → ℕ → ℕ
place_in units places = if units then places / 2 ^ 18 else places % 2 ^ 18

-- the edit that is kept so, as places are counted
abbrev pub edit_in : Bool → KeptEdit → Edit
edit_in units r = edit_by units (r.word % 4) (place_in units (r.word / 4 / 2 ^ 21))
    (if is_character (r.word / 4 % 2 ^ 21) then r.word / 4 % 2 ^ 21 else 0)
