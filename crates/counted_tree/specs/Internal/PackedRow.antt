-- What a kept row of the newest tree's table stands for.
use Rattle.std.specs.Prelude.{ℕ, ◌-◌, ◌/◌, ◌%◌, ◌^◌, ◌==◌, if◌then◌else◌, Option, Some, None}
use Rattle.counted_tree.specs.declared.kept.above.Above.{Above}
use Rattle.counted_tree.specs.declared.kept.row.Row.{Row}
use Rattle.counted_tree.specs.declared.kept.side.Side.{Side}
use Rattle.counted_tree.specs.declared.kept.side.Side.TheVariants.{Left, Right}
use Rattle.counted_tree.specs.declared.kept.packed_row.PackedRow.TheInside.{Inside}

-- the side that a number stands for: an even one is the left side
abbrev pub side_of : ℕ → Side
side_of n = if n % 2 == 0 then Left else Right

-- what a number says that one hangs from: 0 is nothing, and two numbers stand for the two sides of each element
abbrev pub above_of : ℕ → Option Above
above_of n = if n == 0 then None else Some (record { elem = (n - 1) / 2; side = side_of (n - 1) })

-- the row that is kept so
abbrev pub unpacked_row : Inside → Row
unpacked_row r = record { above = above_of r.above; least = r.least_and_height / 2 ^ 6; height = r.least_and_height % 2 ^ 6 }
