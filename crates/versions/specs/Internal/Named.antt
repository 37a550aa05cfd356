-- The element that an operation names.
use Rattle.std.specs.Prelude.{ℕ, List, Option, option_and_then}
use Rattle.opid.specs.declared.kind.OpKind.{OpKind}
use Rattle.opid.specs.declared.kind.OpKind.TheVariants.{Ins, Del}
use Rattle.rga_list.specs.Entries.{Entry, elem_of}

-- that of its parent, None for the head, or of its target
abbrev pub element_of : OpKind → List Entry → Option ℕ
element_of (Ins parent ch) entries = option_and_then (λ p. elem_of p entries) parent
element_of (Del target) entries = elem_of target entries
