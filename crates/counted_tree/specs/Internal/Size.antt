-- How much entries show.
use Rattle.std.specs.Prelude.{◌≡◌, ◌+◌, ◌-◌, List, length, true, false}
use Rattle.counted_tree.specs.declared.entry.Entry.{Entry}
use Rattle.counted_tree.specs.declared.size.Size.{Size}
use Rattle.counted_tree.specs.Entry.{visible, items_of, units}

-- how much an entry shows
abbrev pub size_of : Entry → Size
size_of x = record { shown = length (items_of false x); units = length (items_of true x) }

-- so much, an entry, and more
abbrev pub through : Size → Entry → Size → Size
through s x more = record {
  shown = s.shown + length (items_of false x) + more.shown;
  units = s.units + length (items_of true x) + more.units;
}

-- what is left without a part and an entry
abbrev pub beyond : Size → Size → Entry → Size
beyond s part x = record {
  shown = s.shown - part.shown - length (items_of false x);
  units = s.units - part.units - length (items_of true x);
}

-- the entries show so much
abbrev pub IsSizeOf : Size → List Entry → Type 0
IsSizeOf s xs = (s.shown ≡ length (visible xs)) × (s.units ≡ length (units xs))

-- the one list shows so much more than the other
abbrev pub ShowsMore : Size → List Entry → List Entry → Type 0
ShowsMore s xs ys = (length (visible xs) ≡ length (visible ys) + s.shown) × (length (units xs) ≡ length (units ys) + s.units)
