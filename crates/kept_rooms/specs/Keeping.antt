-- What a turn of keeping does to a room's file. The rules are the server's own.
use Rattle.std.specs.Prelude.{◌≡◌, ◌<◌, ◌≤◌, ◌⊎◌, ℕ, List, length, Some, slice_get}
use Rattle.opid.specs.declared.limits.TheConstants.{MAX_OPERATIONS}
use Rattle.opid.specs.declared.site.TheConstants.{SITES}
use Rattle.opid.specs.Operations.{Operation}
use Rattle.opid.specs.Lawful.{IsLawful}
use Rattle.room_model.specs.Machine.{room_over}
use Rattle.shared_room.specs.declared.shared.SharedRoom.{SharedRoom}
use Rattle.shared_room.specs.Views.{opening}
use Rattle.ws_server.specs.declared.hall.Hall.{Hall}
use Rattle.ws_server.specs.declared.hall.HallPass.{HallPass}
use Rattle.ws_server.specs.Halls.{rooms_of}
use Rattle.keeper.specs.Disk.{LeavesOnly}
use Rattle.keeper.specs.Kept.{Keeps}
use Rattle.keeper.specs.Turn.{OpensAs}
use Rattle.keeper.specs.declared.kept.KeptFile.{KeptFile}
use Rattle.kept_rooms.specs.SeenLogs.{seen_log}

-- the room at this place was opened over a log that is lawful and within its limit
pub record IsOverLog (hall : Hall) (at : ℕ) : Type 0 where
  pub room : SharedRoom
  pub there : slice_get (rooms_of hall) at ≡ Some room
  pub site : ℕ
  pub log : List Operation
  pub one : site < SITES
  pub opened : opening room ≡ room_over site log
  pub lawful : IsLawful log
  pub few : length log ≤ MAX_OPERATIONS

-- The file's room is one of the hall's, which was opened over a log, and the file keeps the log that the pass has seen of it.
pub record IsFileOf {D : Type 0} (honest : D → Type 0) (seen : D → List ℕ) (may_leave : D → List ℕ → Type 0) (fresh : D → ℕ)
    (hall : Hall) (pass : HallPass) (file : KeptFile D) : Type 0 where
  pub within : file.room < length (rooms_of hall)
  pub over : IsOverLog hall file.room
  pub keeps : Keeps honest seen may_leave fresh file (seen_log hall file.room pass)

-- A turn of the file's room. Where the file kept the log that the pass has seen since, as far as it went then, it keeps it now: all of it,
-- or with the mark where it was. A crash at any moment left a beginning of that log, with what stood in the file.
abbrev pub TurnsRoom : {D : Type 0} → (D → Type 0) → (D → List ℕ) → (D → List ℕ → Type 0) → (D → ℕ) → (D → ℕ)
    → (D → ℕ → List ℕ → Type 0) → Hall → HallPass → KeptFile D → KeptFile D → Type 0
TurnsRoom honest seen may_leave fresh moment left_since hall pass old new =
    IsFileOf honest seen may_leave fresh hall pass old
    → IsFileOf honest seen may_leave fresh hall pass new
    × ((new.mark.version ≡ length (seen_log hall old.room pass)) ⊎ (new.mark ≡ old.mark))
    × LeavesOnly moment left_since old.disk new.disk (OpensAs old.mark.version (seen_log hall old.room pass))

-- where the file kept that log, all of it is kept
abbrev pub KeepsRoom : {D : Type 0} → (D → Type 0) → (D → List ℕ) → (D → List ℕ → Type 0) → (D → ℕ)
    → Hall → HallPass → KeptFile D → KeptFile D → Type 0
KeepsRoom honest seen may_leave fresh hall pass old new =
    IsFileOf honest seen may_leave fresh hall pass old → new.mark.version ≡ length (seen_log hall old.room pass)
