-- What holds of a document's parts.
use Rattle.std.specs.Prelude.{◌≡◌, ◌≤◌, ◌<◌, ◌+◌, ◌-◌, min, ℕ, Bool, List, length, map, slice_index}
use Rattle.opid.specs.declared.limits.TheConstants.{MAX_OPERATIONS}
use Rattle.opid.specs.Operations.{Operation}
use Rattle.opid.specs.Delivery.{clock_of}
use Rattle.opid.specs.Lawful.{IsLawful}
use Rattle.opid.specs.Edits.{edits_in}
use Rattle.rga_list.specs.Entries.{Entry}
use Rattle.rga_list.specs.Listed.{listed}
use Rattle.counted_tree.specs.Versions.{Versions, newest}
use Rattle.versions.specs.declared.kept_edit.KeptEdit.{KeptEdit}
use Rattle.versions.specs.Internal.KeptEdits.{edit_in}
use Rattle.opid.specs.Rising.{last_sum}
use Rattle.versions.specs.Internal.Joined.{TellsVersions}

-- each site's last sum
pub record AreSums (log : List Operation) (sums : List ℕ) : Type 0 where
  pub width : length sums ≡ 32
  pub at : (site : ℕ) → site < 32 → slice_index sums site ≡ last_sum log site

-- the edits of the log, in both ways of counting
pub record AreEdits (log : List Operation) (changes : List KeptEdit) : Type 0 where
  pub each : (units : Bool) → map (edit_in units) changes ≡ edits_in units log

-- a lawful log within the limit, its edits, its tree, its clock, its sums, and its list
pub record IsDocument (log : List Operation) (changes : List KeptEdit) (tree : Versions) (clock sums : List ℕ)
    (entries : List Entry) : Type 0 where
  pub lawful : IsLawful log
  pub few : length log ≤ MAX_OPERATIONS
  pub edited : AreEdits log changes
  pub told : TellsVersions log tree
  pub counted : clock ≡ clock_of log
  pub summed : AreSums log sums
  pub shown : entries ≡ listed log

-- Each part has memory for so many more, up to what the limit of 131,072 versions leaves: the log's reserve, of the edits their
-- length and capacity, the tree, and the list's reserve.
pub record AreReserved (log_reserved changes_len changes_capacity : ℕ) (tree : Versions) (list_reserved reserved : ℕ) : Type 0 where
  pub log : min reserved (MAX_OPERATIONS - newest tree) ≤ log_reserved
  pub changes : changes_len + min reserved (MAX_OPERATIONS - newest tree) ≤ changes_capacity
  pub tree_reserved : min reserved (MAX_OPERATIONS - newest tree) ≤ tree.reserved
  pub list : min reserved (MAX_OPERATIONS - newest tree) ≤ list_reserved
