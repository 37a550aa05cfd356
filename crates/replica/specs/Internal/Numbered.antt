-- Where a log has the operations of each site.
use Rattle.std.specs.Prelude.{◌≡◌, ◌≤◌, ◌<◌, ◌+◌, ℕ, if◌then◌else◌, ◌==◌, List, [], ◌∷◌, length, slice_index_or}
use Rattle.opid.specs.Operations.{Operation}
use Rattle.opid.specs.Lawful.{IsLawful}

-- the places of one site's operations, and for how many more there is memory
pub record PlacesOfOne : Type 0 where
  pub places : List ℕ
  pub reserved : ℕ

-- of each site the places of its operations in rising order, and for how many more there is memory
pub record AllPlaces : Type 0 where
  pub rows : List (List ℕ)
  pub reserved : ℕ

-- the places that are kept of a site
abbrev pub places_at : List (List ℕ) → ℕ → List ℕ
places_at rows site = slice_index_or rows site []

-- the places of the site's operations in the log, of which the first stands at `start`
abbrev pub places_from : ℕ → ℕ → List Operation → List ℕ
places_from start site [] = []
places_from start site (x ∷ log) = if x.site == site then start ∷ places_from (start + 1) site log else places_from (start + 1) site log

-- the places of the site's operations in the log
abbrev pub places_of : ℕ → List Operation → List ℕ
places_of site log = places_from 0 site log

-- the rows have the places of each site's operations
pub record AreNumbered (log : List Operation) (rows : List (List ℕ)) : Type 0 where
  pub width : length rows ≡ 32
  pub each : (site : ℕ) → site < 32 → places_at rows site ≡ places_of site log

-- a lawful log, the places of each site's operations in it, and as much memory for these as for the log
pub record IsLog (log : List Operation) (rows : List (List ℕ)) (log_reserved rows_reserved : ℕ) : Type 0 where
  pub lawful : IsLawful log
  pub numbered : AreNumbered log rows
  pub reserved : log_reserved ≤ rows_reserved
