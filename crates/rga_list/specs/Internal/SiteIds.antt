-- The identifiers of one site: its sums in rising order, each with the element that it names.
use Rattle.std.specs.Prelude.{◌≡◌, ℕ, ◌≤◌, ◌==◌, if◌then◌else◌, Option, Some, None, List, [], ◌∷◌}
use Rattle.std.specs.List.{AllByRecursion}

-- the identifiers of a site, and how many more have their memory already
pub record SiteIds : Type 0 where
  pub ids : List (ℕ × ℕ)
  pub reserved : ℕ

-- the element that the sum names
abbrev pub find_id : ℕ → List (ℕ × ℕ) → Option ℕ
find_id sum [] = None
find_id sum (id ∷ ids) = if id.0 == sum then Some id.1 else find_id sum ids

-- each sum is at most this one, which is there
pub record IsGreatest (ids : List (ℕ × ℕ)) (sum : ℕ) : Type 0 where
  pub elem : ℕ
  pub found : find_id sum ids ≡ Some elem
  pub above : AllByRecursion (λ i. i.0 ≤ sum) ids
