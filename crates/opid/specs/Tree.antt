-- The timestamped insertion tree and its preorder (Attiya, Burckhardt, Gotsman, Morrison, Yang and Zawirski 2016).
use Rattle.std.specs.Prelude.{◌≡◌, Bool, cond, Option, Some, None, List, [], ◌∷◌, ◌++◌, filter, reverse}
use Rattle.std.specs.List.{flat_map}
use Rattle.opid.specs.declared.stamp.Stamp.{Stamp}
use Rattle.opid.specs.Stamps.{is_before, is_same_parent}
use Rattle.opid.specs.Operations.{Operation, Insertion, insertions}

-- whether p is the parent of x
abbrev pub is_child_of : Option Stamp → Insertion → Bool
is_child_of p x = is_same_parent x.parent p

-- x put into a list by rising stamp
abbrev pub insert_rising : Insertion → List Insertion → List Insertion
insert_rising x [] = x ∷ []
insert_rising x (y ∷ ys) = cond (is_before x.stamp y.stamp) (x ∷ y ∷ ys) (y ∷ insert_rising x ys)

-- the insertions by rising stamp
abbrev pub rising : List Insertion → List Insertion
rising [] = []
rising (x ∷ xs) = insert_rising x (rising xs)

-- Of insertions by rising stamp: those with parent p by falling stamp, each followed at once by its own.
-- The first of the list has the smallest stamp. So it stands behind all other children of p,
-- and all below any child, itself too, are among the later ones.
abbrev pub preorder : List Insertion → Option Stamp → List Insertion
preorder [] p = []
preorder (x ∷ later) p = preorder later p ++ cond (is_child_of p x) (x ∷ preorder later (Some x.stamp)) []

-- every element, in the one order
abbrev pub all : List Operation → List Insertion
all ops = preorder (rising (insertions ops)) None

-- the children of p, by falling stamp
abbrev pub children : List Operation → Option Stamp → List Insertion
children ops p = reverse (filter (is_child_of p) (rising (insertions ops)))

-- f gives the children of each parent by falling stamp, each followed at once by its own
abbrev pub IsPreorder : List Operation → (Option Stamp → List Insertion) → Type 0
IsPreorder ops f = (p : Option Stamp) → f p ≡ flat_map (λ c. c ∷ f (Some c.stamp)) (children ops p)
