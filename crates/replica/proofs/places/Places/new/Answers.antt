-- The rows are empty.
use Rattle.std.proofs.Common.{◌≡◌, ◌<◌, ℕ, [], List, refl, ap, rules, get_or}
use Rattle.replica.specs.Internal.Numbered.{AllPlaces, PlacesOfOne}
use Rattle.replica.proofs.SitePlaces.{no_places}
use Rattle.replica.proofs.places.Places.new.Goals as goal

pub returns : goal.returns
returns c =
    let blank : PlacesOfOne = record { places = []; reserved = 0 } in
    let made : (k : ℕ) → k < 32 → get_or c.from_fn.result k blank ≡ blank =
    λ k l. (let h = c.from_fn.ensures.items.at k blank l in search rules) in
    ap (λ (ps : List (List ℕ)). let r : AllPlaces = record { rows = ps; reserved = 0 } in r)
    (no_places c.from_fn.result 32 blank refl c.from_fn.ensures.items.long made)
