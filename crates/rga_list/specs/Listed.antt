-- What the list shows of a set of operations: the preorder of its tree, deleted elements too (Attiya and others 2016).
use Rattle.std.specs.Prelude.{not, List, map}
use Rattle.opid.specs.Operations.{Operation, Insertion, insertions, is_deleted}
use Rattle.opid.specs.Tree.{all}
use Rattle.opid.specs.Edits.{place_of}
use Rattle.rga_list.specs.Entries.{Entry}

-- an insertion among these operations as an entry: how many insertions arrived before it, and whether it is deleted
abbrev pub entry_for : List Operation → Insertion → Entry
entry_for ops x = record { elem = place_of x.stamp (insertions ops); stamp = x.stamp; ch = x.ch; shown = not (is_deleted ops x.stamp) }

-- every element of the operations in the one order
abbrev pub listed : List Operation → List Entry
listed ops = map (entry_for ops) (all ops)
