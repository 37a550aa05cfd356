-- The list as contracts see it, and what each call makes of it (Roh, Jeon, Kim and Lee 2011).
use Rattle.std.specs.Prelude.{◌≡◌, ◌≢◌, ℕ, ◌<◌, ◌≤◌, Bool, true, false, ◌&&◌, ◌==◌, nat_le, if◌then◌else◌, Option, Some, None, List}
use Rattle.std.specs.Prelude.{[], ◌∷◌, map, length}
use Rattle.std.specs.List.{AllByRecursion, list_any}
use Rattle.opid.specs.declared.limits.TheConstants.{MAX_OPERATIONS}
use Rattle.opid.specs.declared.stamp.Stamp.{Stamp}
use Rattle.opid.specs.declared.refusal.Refusal.{Refusal}
use Rattle.opid.specs.declared.refusal.Refusal.TheVariants.{Full}
use Rattle.opid.specs.Stamps.{is_before, is_same}
use Rattle.opid.specs.Lawful.{parent_cause}

-- an element of the list: how many came before it, its stamp, its character, and whether it is shown
pub record Entry : Type 0 where
  pub elem : ℕ
  pub stamp : Stamp
  pub ch : ℕ
  pub shown : Bool

-- every element in the linked order, deleted ones too, and how many insertions have their memory already
pub record LinkedElements : Type 0 where
  pub entries : List Entry
  pub reserved : ℕ

-- x put in behind those with a greater stamp, before the first other or at the end
abbrev pub stand : Entry → List Entry → List Entry
stand x [] = x ∷ []
stand x (y ∷ ys) = if is_before x.stamp y.stamp then y ∷ stand x ys else (x ∷ y ∷ ys)

-- the same in what comes after the element with the stamp p
abbrev pub stand_after : Stamp → Entry → List Entry → List Entry
stand_after p x [] = []
stand_after p x (y ∷ ys) = if is_same p y.stamp then y ∷ stand x ys else (y ∷ stand_after p x ys)

-- the list with x put in: from behind its parent (None: from the head) past every greater stamp
abbrev pub placed : Option Stamp → Entry → List Entry → List Entry
placed None x entries = stand x entries
placed (Some p) x entries = stand_after p x entries

-- the last element that the way right passes, past those with a stamp greater than s; `last` was passed before them
abbrev pub passed : Stamp → Option ℕ → List Entry → Option ℕ
passed s last [] = last
passed s last (y ∷ ys) = if is_before s y.stamp then passed s (Some y.elem) ys else last

-- the element right behind which an insertion with the stamp s stands: the last that the way right from its parent passes. None is the
-- head, as the parent and as that element.
abbrev pub behind : Option Stamp → Stamp → List Entry → Option ℕ
behind None s entries = passed s None entries
behind (Some p) s [] = None
behind (Some p) s (y ∷ ys) = if is_same p y.stamp then passed s (Some y.elem) ys else behind (Some p) s ys

-- the list with x put in right behind an element (None: before all others)
abbrev pub put_behind : Option ℕ → Entry → List Entry → List Entry
put_behind None x entries = x ∷ entries
put_behind (Some k) x [] = []
put_behind (Some k) x (y ∷ ys) = if y.elem == k then y ∷ x ∷ ys else (y ∷ put_behind (Some k) x ys)

-- an element has the stamp
abbrev pub has_stamp : List Entry → Stamp → Bool
has_stamp entries s = list_any (λ e. is_same s e.stamp) entries

-- the element with the stamp
abbrev pub elem_of : Stamp → List Entry → Option ℕ
elem_of s [] = None
elem_of s (e ∷ es) = if is_same s e.stamp then Some e.elem else elem_of s es

-- the entry of an element
abbrev pub entry_of : ℕ → List Entry → Option Entry
entry_of k [] = None
entry_of k (e ∷ es) = if e.elem == k then Some e else entry_of k es

-- the element of the first entry
abbrev pub first_of : List Entry → Option ℕ
first_of [] = None
first_of (e ∷ es) = Some e.elem

-- the element right after another one
abbrev pub elem_after : ℕ → List Entry → Option ℕ
elem_after k [] = None
elem_after k (e ∷ es) = if e.elem == k then first_of es else elem_after k es

-- the element right after another one, or the first one (None); None: it is the last, or isn't there
abbrev pub next_of : Option ℕ → List Entry → Option ℕ
next_of None entries = first_of entries
next_of (Some k) entries = elem_after k entries

-- the element right before k, where `last` stands before the list
abbrev pub elem_before : ℕ → Option ℕ → List Entry → Option ℕ
elem_before k last [] = None
elem_before k last (e ∷ es) = if e.elem == k then last else elem_before k (Some e.elem) es

-- no two entries are of one element
abbrev pub AreOfOwn : List Entry → Type 0
AreOfOwn [] = Unit {0}
AreOfOwn (e ∷ es) = AllByRecursion (λ f. f.elem ≢ e.elem) es × AreOfOwn es

-- the stamp is above every stamp of its site
abbrev pub IsAboveItsSite : List Entry → Stamp → Type 0
IsAboveItsSite entries s = AllByRecursion (λ e. e.stamp.site ≡ s.site → e.stamp.sum < s.sum) entries

-- it is the greatest stamp of the site
abbrev pub IsGreatestOf : List Entry → ℕ → Stamp → Type 0
IsGreatestOf entries site s = (s.site ≡ site) × (has_stamp entries s ≡ true)
    × AllByRecursion (λ e. e.stamp.site ≡ site → e.stamp.sum ≤ s.sum) entries

-- why an insertion with the stamp s after this parent is refused, memory apart
abbrev pub parent_refusal : List Entry → Option Stamp → Stamp → Option Refusal
parent_refusal entries None s = None
parent_refusal entries (Some p) s = parent_cause (has_stamp entries p) (is_before p s)

-- why an insertion is refused, memory apart: the list is full, or the cause lies in its parent
abbrev pub refusal_of : List Entry → Option Stamp → Stamp → Option Refusal
refusal_of entries parent s = if nat_le MAX_OPERATIONS (length entries) then Some Full else parent_refusal entries parent s

-- the entry as it is once t is deleted
abbrev pub hide : Stamp → Entry → Entry
hide t e = if is_same t e.stamp then (record e { shown = false }) else e

-- the list with the element of stamp t hidden
abbrev pub hidden : Stamp → List Entry → List Entry
hidden t entries = map (hide t) entries

-- the element with stamp t is there and shown
abbrev pub is_shown : Stamp → List Entry → Bool
is_shown t entries = list_any (λ e. is_same t e.stamp && e.shown) entries
