-- The operations that are asked for by a place in a version of a log, and where an insertion then stands. To ask by a version is the
-- server's own; the tree is that of Attiya and others 2016.
use Rattle.std.specs.Prelude.{◌≡◌, ℕ, ◌+◌, ◌-◌, Bool, false, not, ◌||◌, ◌==◌, if◌then◌else◌, Option, Some, None, option_map, List, [], ◌∷◌}
use Rattle.std.specs.Prelude.{◌++◌, map, filter, take, drop, slice_get}
use Rattle.std.specs.Char.Utf16.{is_low_surrogate}
use Rattle.opid.specs.declared.stamp.Stamp.{Stamp}
use Rattle.opid.specs.declared.kind.OpKind.TheVariants.{Ins, Del}
use Rattle.opid.specs.Clocks.{raised}
use Rattle.opid.specs.Operations.{Operation, Insertion, stamp_at, insertions}
use Rattle.opid.specs.Delivery.{clock_of}
use Rattle.opid.specs.Units.{items_in}
use Rattle.opid.specs.Reading.{visible_in, visible_in_at, reading_in_at}
use Rattle.opid.specs.Splice.{is_inside}

-- the parent of what is put in at place k of version v: the head, or the element before the place
abbrev pub parent_in_at : Bool → List Operation → ℕ → ℕ → Option Stamp
parent_in_at units log v k = if k == 0 then None else option_map (λ x. x.stamp) (slice_get (visible_in_at units log v) (k - 1))

-- insertions of a site, one for each character: the first has this parent, each next one the one before it.
-- Their clocks are this one raised at the site once, twice and so on.
abbrev pub insertion_run : ℕ → List ℕ → Option Stamp → List ℕ → List Operation
insertion_run site clock parent [] = []
insertion_run site clock parent (ch ∷ chs) =
    record { site = site; clock = raised clock site; kind = Ins parent ch }
    ∷ insertion_run site (raised clock site) (Some (stamp_at site (raised clock site))) chs

-- deletions of a site, one for each target, with such clocks
abbrev pub deletion_run : ℕ → List ℕ → List Stamp → List Operation
deletion_run site clock [] = []
deletion_run site clock (target ∷ targets) =
    record { site = site; clock = raised clock site; kind = Del target } ∷ deletion_run site (raised clock site) targets

-- what a site asks for that puts the characters in at place k of version v: nothing where the place is inside a pair
abbrev pub asked_insertions_in : Bool → List Operation → ℕ → ℕ → ℕ → List ℕ → List Operation
asked_insertions_in units log site v k chars =
    if is_inside units (reading_in_at units log v) k then [] else insertion_run site (clock_of log) (parent_in_at units log v k) chars

-- of elements as they are counted, each once
abbrev pub each_once : Bool → List Insertion → List Insertion
each_once units xs = if units then filter (λ x. not (is_low_surrogate x.ch)) xs else xs

-- what a site asks for that deletes the elements at the c places from place k of version v on: nothing where an end of these
-- places is inside a pair
abbrev pub asked_deletions_in : Bool → List Operation → ℕ → ℕ → ℕ → ℕ → List Operation
asked_deletions_in units log site v k c =
    if is_inside units (reading_in_at units log v) k || is_inside units (reading_in_at units log v) (k + c) then []
    else deletion_run site (clock_of log) (map (λ x. x.stamp) (each_once units (take c (drop k (visible_in_at units log v)))))

-- the insertions stand, in their order, at place k of the version that was named
abbrev pub IsPlaced_in : Bool → List Operation → ℕ → ℕ → List Operation → Type 0
IsPlaced_in units log v k xs =
    visible_in units (take v log ++ xs)
    ≡ take k (visible_in_at units log v) ++ items_in units (insertions xs) ++ drop k (visible_in_at units log v)

-- the same where characters are counted
abbrev pub parent_at : List Operation → ℕ → ℕ → Option Stamp
parent_at log v k = parent_in_at false log v k

-- what an insertion asks for, where characters are counted
abbrev pub asked_insertions : List Operation → ℕ → ℕ → ℕ → List ℕ → List Operation
asked_insertions log site v k chars = asked_insertions_in false log site v k chars

-- what a deletion asks for, where characters are counted
abbrev pub asked_deletions : List Operation → ℕ → ℕ → ℕ → ℕ → List Operation
asked_deletions log site v k c = asked_deletions_in false log site v k c

-- the insertions stand at the place of the version, where characters are counted
abbrev pub IsPlaced : List Operation → ℕ → ℕ → List Operation → Type 0
IsPlaced log v k xs = IsPlaced_in false log v k xs
