-- How far one comes in a version's list past the elements with a greater key: so an insertion passes those with a greater stamp in the
-- replicated growable array (Roh and others 2011).
use Rattle.std.specs.Prelude.{ℕ, ◌==◌, nat_lt, if◌then◌else◌, Option, Some, None, List, [], ◌∷◌}
use Rattle.counted_tree.specs.declared.entry.Entry.{Entry}

-- the last element that one passes, going on as long as the keys are greater
abbrev pub passed : ℕ → Option ℕ → List Entry → Option ℕ
passed key last [] = last
passed key last (x ∷ xs) = if nat_lt key x.key then passed key (Some x.elem) xs else last

-- the same right after an element, or from before all others
abbrev pub last_greater : Option ℕ → ℕ → List Entry → Option ℕ
last_greater None key xs = passed key None xs
last_greater (Some e) key [] = None
last_greater (Some e) key (x ∷ xs) = if x.elem == e then passed key (Some e) xs else last_greater (Some e) key xs
