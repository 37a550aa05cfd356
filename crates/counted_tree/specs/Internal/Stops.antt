-- Where one stops among entries with greater keys.
use Rattle.std.specs.Prelude.{ℕ, ◌&&◌, nat_lt, if◌then◌else◌, Bool, true, Option, Some, None, List, [], ◌∷◌}
use Rattle.counted_tree.specs.declared.entry.Entry.{Entry}
use Rattle.counted_tree.specs.Greater.{passed}

-- each of them has a greater key
abbrev pub all_greater : ℕ → List Entry → Bool
all_greater key [] = true
all_greater key (x ∷ xs) = nat_lt key x.key && all_greater key xs

-- the last element, or where there is none the given one
abbrev pub last_of : Option ℕ → List Entry → Option ℕ
last_of last [] = last
last_of last (x ∷ xs) = last_of (Some x.elem) xs

-- the last element that one passes before one stops among them, if one stops there
abbrev pub stop : ℕ → Option ℕ → List Entry → Option ℕ
stop key last xs = if all_greater key xs then None else passed key last xs
