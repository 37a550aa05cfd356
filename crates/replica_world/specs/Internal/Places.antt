-- Where a site's room stands among the rooms of a world.
use Rattle.std.specs.Prelude.{◌≡◌, ◌<◌, slice_set, ℕ}
use Rattle.std.specs.Prelude.{List, length, slice_get}
use Rattle.room_model.specs.History.{Account}
use Rattle.room_model.specs.World.{room_of, with_room}

-- the site's room is the first of its site, and stands at this place
pub record IsPlaceOf (site : ℕ) (world : List Account) (place : ℕ) : Type 0 where
  pub within : place < length world
  pub found : room_of site world ≡ slice_get world place
  pub with_new : (new : Account) → with_room site new world ≡ slice_set world place new
