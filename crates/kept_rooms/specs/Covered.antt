-- What may go out of a connection whose room is kept. The rules are the server's own.
use Rattle.std.specs.Prelude.{◌≡◌, ◌≤◌, ℕ, length, Option, Some, None}
use Rattle.keeper.specs.declared.kept.Kept.{Kept}
use Rattle.ws_server.specs.declared.hall.Hall.{Hall}
use Rattle.ws_server.specs.declared.hall.HallPass.{HallPass}
use Rattle.kept_rooms.specs.SeenLogs.{seen_log}

-- of the room at this place so many operations are kept that they are all of the log which the pass has seen
pub record Covers (hall : Hall) (at : ℕ) (pass : HallPass) (kept : Kept) : Type 0 where
  pub room : kept.room ≡ at
  pub all : length (seen_log hall at pass) ≤ kept.version

-- what a connection was answered is kept: its room's log, or nothing where it has opened no room
abbrev pub AreCovered : Hall → Option ℕ → HallPass → Option Kept → Type 0
AreCovered hall None pass kept = kept ≡ None
AreCovered hall (Some at) pass None = ⊥
AreCovered hall (Some at) pass (Some kept) = Covers hall at pass kept
