use Rattle.std.proofs.Common.{◌≡◌}
use Rattle.std.specs.Prelude.{string_bytes}
use Rattle.std.specs.List.{flat_map, range_with_len}
use Rattle.room_model.specs.World.{room_of}
use Rattle.commands.specs.Worlds.{site_lines}
use Rattle.commands.proofs.world.readings.Given as goal

-- the sites so far have their lines
abbrev pub invariant-loop-number : goal.invariant-loop-number
invariant-loop-number l = string_bytes l.text ≡ flat_map (λ site. site_lines (room_of site l.world)) (range_with_len 0 l.number)
