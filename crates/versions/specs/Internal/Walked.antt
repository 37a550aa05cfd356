-- How far a walk along the linked order has come, with the text of what it passed.
use Rattle.std.specs.Prelude.{◌≡◌, ℕ, ◌<◌, ◌≤◌, List, ◌++◌, map, filter, length, Option, IfSome, encode_utf8_all}
use Rattle.rga_list.specs.Entries.{Entry, first_of}

-- those that are shown
abbrev pub shown_entries : List Entry → List Entry
shown_entries xs = filter (λ (e : Entry). e.shown) xs

-- a way along the entries: those passed, those to come, and the element that comes next
pub record Way (entries : List Entry) (next : Option ℕ) (count : ℕ) : Type 0 where
  pub done : List Entry
  pub rest : List Entry
  pub whole : entries ≡ done ++ rest
  pub at : next ≡ first_of rest
  pub passed : length done ≡ count
  pub known : IfSome next (λ k. k < length entries)

-- these bytes, with those of what is still to come, are the whole text
pub record TextWay (entries : List Entry) (next : Option ℕ) (count : ℕ) (bytes : List ℕ) : Type 0 where
  pub way : Way entries next count
  pub left : encode_utf8_all (map (λ e. e.ch) (shown_entries entries)) ≡ bytes ++ encode_utf8_all (map (λ e. e.ch) (shown_entries way.rest))

-- the same, where so many were passed at least
pub record TextAtLeast (entries : List Entry) (next : Option ℕ) (least : ℕ) (bytes : List ℕ) : Type 0 where
  pub count : ℕ
  pub enough : least ≤ count
  pub way : TextWay entries next count bytes
