-- Which pages may connect, by their origins as a browser tells them (RFC 6454): the rule is the server's own.
use Rattle.std.specs.Prelude.{◌≡◌, ◌⊎◌, ℕ, List, [], ◌∷◌, ◌++◌, codes, Contains}
use Rattle.std.specs.Char.{is_ascii_digit}
use Rattle.std.specs.List.{AllPass}

-- nothing, or a colon and digits: the port of an origin
abbrev pub IsPort : List ℕ → Type 0
IsPort [] = Unit {0}
IsPort (first ∷ digits) = (first ≡ 58) × AllPass is_ascii_digit digits

-- this page's origin, at some port
abbrev pub IsAtPort : List ℕ → List ℕ → Type 0
IsAtPort page origin = (port : List ℕ) × (origin ≡ page ++ port) × IsPort port

-- the origin of a page of this machine: over HTTP, from a name of the loopback interface
abbrev pub IsOfThisMachine : List ℕ → Type 0
IsOfThisMachine origin = IsAtPort (codes "http://127.0.0.1") origin ⊎ IsAtPort (codes "http://localhost") origin
    ⊎ IsAtPort (codes "http://[::1]") origin

-- it is that of a page of this machine, or it is named, or all are
abbrev pub IsAdmitted : List (List ℕ) → List ℕ → Type 0
IsAdmitted named origin = IsOfThisMachine origin ⊎ Contains named (codes "*") ⊎ Contains named origin
