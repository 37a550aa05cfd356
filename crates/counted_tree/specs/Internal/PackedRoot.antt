-- What a kept root stands for.
use Rattle.std.specs.Prelude.{ℕ, ◌/◌, ◌%◌, ◌^◌}
use Rattle.counted_tree.specs.declared.kept.root.Root.{Root}
use Rattle.counted_tree.specs.declared.size.Size.{Size}
use Rattle.counted_tree.specs.Internal.Link.{link_of}

-- how much the tree of a root shows, by the number that stands for it
abbrev unpacked_size : ℕ → Size
unpacked_size n = record { shown = n % 2 ^ 18; units = n / 2 ^ 18 }

-- the root that a number stands for
abbrev pub unpacked_root : ℕ → Root
unpacked_root n = record { link = link_of (n % 2 ^ 22); size = unpacked_size (n / 2 ^ 22) }
