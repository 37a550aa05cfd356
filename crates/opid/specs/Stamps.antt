-- The order of stamps: by sum, then by site (Roh, Jeon, Kim and Lee 2011; the session is left out).
use Rattle.std.specs.Prelude.{Bool, true, false, ◌&&◌, ◌||◌, nat_lt, ◌==◌, Option, Some, None}
use Rattle.opid.specs.declared.stamp.Stamp.{Stamp}

-- a stands before b
abbrev pub is_before : Stamp → Stamp → Bool
is_before a b = nat_lt a.sum b.sum || (a.sum == b.sum && nat_lt a.site b.site)

-- the same stamp: the same sum and the same site
abbrev pub is_same : Stamp → Stamp → Bool
is_same a b = a.sum == b.sum && a.site == b.site

-- the same parent: the same stamp, or the head both times
abbrev pub is_same_parent : Option Stamp → Option Stamp → Bool
is_same_parent None None = true
is_same_parent None (Some b) = false
is_same_parent (Some a) None = false
is_same_parent (Some a) (Some b) = is_same a b
