-- Vector clocks: a count for each of 32 sites (Roh, Jeon, Kim and Lee 2011; causal delivery).
use Rattle.std.specs.Prelude.{ℕ, ◌+◌, Bool, ◌&&◌, ◌||◌, ◌==◌, nat_le, List, slice_index, slice_set}
use Rattle.std.specs.List.{range_with_len, list_all}
use Rattle.opid.specs.declared.site.TheConstants.{SITES}

-- the sites
unfoldable pub sites : List ℕ
sites = range_with_len 0 SITES

-- a site's count
abbrev pub entry : List ℕ → ℕ → ℕ
entry clock site = slice_index clock site

-- the clock with the site's count raised by one
abbrev pub raised : List ℕ → ℕ → List ℕ
raised clock site = slice_set clock site (entry clock site + 1)

-- each count of the first that isn't the site's is at most that of the second
abbrev pub covers_others : ℕ → List ℕ → List ℕ → Bool
covers_others own clock counts = list_all (λ site. site == own || nat_le (entry clock site) (entry counts site)) sites

-- an operation of the site with this clock is the site's next one after what the counts tell, and all that it knows of is among that
abbrev pub is_next : ℕ → List ℕ → List ℕ → Bool
is_next own clock counts = entry clock own == entry counts own + 1 && covers_others own clock counts
