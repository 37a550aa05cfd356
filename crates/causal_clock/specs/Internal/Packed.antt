-- What holds of a log's parts.
use Rattle.std.specs.Prelude.{◌≡◌, ℕ, ◌+◌, ◌*◌, ◌%◌, ◌<◌, ◌≤◌, Bool, true, false, List, [], ◌∷◌, length, take, drop}
use Rattle.std.specs.Prelude.{replicate, get_or, slice_set}
use Rattle.std.specs.List.{sum_by}
use Rattle.opid.specs.declared.kind.OpKind.{OpKind}
use Rattle.opid.specs.declared.kind.OpKind.TheVariants.{Del}
use Rattle.opid.specs.Operations.{Operation}
use Rattle.opid.specs.Delivery.{clock_of, count_of}
use Rattle.causal_clock.specs.declared.row.Row.{Row}
use Rattle.opid.specs.Kinds.{IsOperation}
use Rattle.causal_clock.specs.Stored.{changes, latest, stored}

-- a kind, a row and an operation for places past the end
abbrev pub no_kind : OpKind
no_kind = Del (record { sum = 0; site = 0 })

-- what stands for a row where there is none
abbrev pub no_row : Row
no_row = record { kind = no_kind; from = 0; prev = 0; site = 0; back = 0; count = 0; mark = 0 }

-- what stands for an operation where there is none
abbrev pub no_op : Operation
no_op = record { site = 0; clock = []; kind = no_kind }

-- the row at a place
abbrev pub row_at : List Row → ℕ → Row
row_at rows k = get_or rows k no_row

-- the operation at a place
abbrev pub operation_at : List Operation → ℕ → Operation
operation_at ops k = get_or ops k no_op

-- the counts with each of the entries put in
abbrev pub fill : List ℕ → List (ℕ × ℕ) → List ℕ
fill counts [] = counts
fill counts (e ∷ es) = fill (slice_set counts e.0 e.1) es

-- a row's entries
abbrev pub changes_of : List (ℕ × ℕ) → Row → List (ℕ × ℕ)
changes_of entries row = take row.count (drop row.from entries)

-- the clock of a row's operation, after the clocks of its sites' last ones
abbrev pub row_clock : List (List ℕ) → List (ℕ × ℕ) → Row → List ℕ
row_clock clocks entries row = fill (get_or clocks row.site []) (changes_of entries row)

-- the operations that rows tell, after the clocks of the sites' last ones
unfoldable pub told : List (List ℕ) → List (ℕ × ℕ) → List Row → List Operation
told clocks entries [] = []
told clocks entries (r ∷ rs) =
    record { site = r.site; clock = row_clock clocks entries r; kind = r.kind }
    ∷ told (slice_set clocks r.site (row_clock clocks entries r)) entries rs

-- the clocks of the sites' last operations after those rows
unfoldable pub after : List (List ℕ) → List (ℕ × ℕ) → List Row → List (List ℕ)
after clocks entries [] = clocks
after clocks entries (r ∷ rs) = after (slice_set clocks r.site (row_clock clocks entries r)) entries rs

-- no site has an operation
abbrev pub no_clocks : List (List ℕ)
no_clocks = replicate 32 (clock_of [])

-- the operations of a log
abbrev pub logged : List (ℕ × ℕ) → List Row → List Operation
logged entries rows = told no_clocks entries rows

-- the place is the site's last one before the end
pub record IsLastBefore (ops : List Operation) (site end place : ℕ) : Type 0 where
  pub before : place < end
  pub own : (operation_at ops place).site ≡ site
  pub last : (j : ℕ) → place < j → j < end → (operation_at ops j).site ≡ site → ⊥

-- the entries of the mark that is added with an operation
abbrev pub marks_of : Bool → List ℕ → List (ℕ × ℕ)
marks_of true before = changes false (clock_of []) before 32
marks_of false before = []

-- a row's mark
abbrev pub mark_of : List (ℕ × ℕ) → Row → List (ℕ × ℕ)
mark_of marks row = take row.mark (drop row.prev marks)

-- the clock that a row names: that of its mark, or that of no operations
abbrev pub base_of : List (ℕ × ℕ) → Row → List ℕ
base_of marks row = fill (clock_of []) (mark_of marks row)

-- The row at k tells the operation there: its entries are put into its mark or the clock of no operations, or into the
-- clock of the row that it names, its site's last one before, which is one step nearer to a row of the first kind.
pub record IsRow (entries marks : List (ℕ × ℕ)) (rows : List Row) (ops : List Operation) (k : ℕ) : Type 0 where
  pub valid : IsOperation (operation_at ops k)
  pub site : (row_at rows k).site ≡ (operation_at ops k).site
  pub kind : (row_at rows k).kind ≡ (operation_at ops k).kind
  pub within : (row_at rows k).from + (row_at rows k).count ≤ length entries
  pub mark : 0 < (row_at rows k).mark → (row_at rows k).prev + (row_at rows k).mark ≤ length marks
  pub base : (row_at rows k).back ≡ 0
      → (operation_at ops k).clock ≡ fill (base_of marks (row_at rows k)) (changes_of entries (row_at rows k))
  pub short : (row_at rows k).back < 8
  pub earlier : 0 < (row_at rows k).back → IsLastBefore ops (operation_at ops k).site k (row_at rows k).prev
  pub nearer : 0 < (row_at rows k).back → (row_at rows (row_at rows k).prev).back + 1 ≡ (row_at rows k).back
  pub step : 0 < (row_at rows k).back
      → (operation_at ops k).clock ≡ fill (operation_at ops (row_at rows k).prev).clock (changes_of entries (row_at rows k))

-- each row tells the operation at its place
abbrev pub AreRows : List (ℕ × ℕ) → List (ℕ × ℕ) → List Row → List Operation → Type 0
AreRows entries marks rows ops = (k : ℕ) → k < length rows → IsRow entries marks rows ops k

-- what is kept of a site: its last operation's clock and place, and how many operations it has
pub record IsSite (rows : List Row) (ops : List Operation) (clocks : List (List ℕ)) (lasts numbers : List ℕ) (site : ℕ) : Type 0 where
  pub clock : get_or clocks site [] ≡ latest ops site
  pub number : get_or numbers site 0 ≡ count_of ops site
  pub none : count_of ops site ≡ 0 → latest ops site ≡ clock_of []
  pub last : 0 < count_of ops site → IsLastBefore ops site (length rows) (get_or lasts site 0)
  pub near : 0 < count_of ops site → (row_at rows (get_or lasts site 0)).back ≤ count_of ops site % 8
  pub same : 0 < count_of ops site → (operation_at ops (get_or lasts site 0)).clock ≡ latest ops site

-- how many operations the sites have since their last marked ones
abbrev pub unmarked : List ℕ → ℕ
unmarked numbers = sum_by (λ n. n % 8) numbers

-- the parts of a log of these operations
pub record IsPacked (entries marks : List (ℕ × ℕ)) (rows : List Row) (ops : List Operation) (clocks : List (List ℕ))
    (lasts numbers : List ℕ) : Type 0 where
  pub each : length ops ≡ length rows
  pub lines : AreRows entries marks rows ops
  pub sites : (site : ℕ) → site < 32 → IsSite rows ops clocks lasts numbers site
  pub current : clocks ≡ after no_clocks entries rows
  pub kept : entries ≡ stored ops
  pub small : length entries ≤ 32 * length rows
  pub eighths : length marks + 4 * unmarked numbers ≤ 4 * length rows

-- memory for so many operations more, each with up to 32 entries, and for each eight of a site, those since its last mark included,
-- a mark with as many
pub record AreReserved (rows_len rows_capacity entries_len entries_capacity marks_len marks_capacity since reserved : ℕ) : Type 0 where
  pub rows : rows_len + reserved ≤ rows_capacity
  pub entries : entries_len + 32 * reserved ≤ entries_capacity
  pub marks : marks_len + 4 * (since + reserved) ≤ marks_capacity
  pub few : rows_len + reserved ≤ 67108864
