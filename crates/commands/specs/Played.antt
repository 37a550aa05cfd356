-- What a run of a command does. `lines` serves a room of its site, each step being the room's: over an empty log, or over the log
-- of a snapshot that is the first line of the input; and writes at last a snapshot, where that is asked for. `text` prints the
-- reading of a version of the log of a snapshot, which is the whole input. `world` answers the events of a script, and then
-- writes what each site reads. The forms are the server's own.
use Rattle.std.specs.Prelude.{◌≡◌, ◌⊎◌, ℕ, ◌<◌, ◌≤◌, List, [], ◌++◌, length, Bool, true, false, unwrap_or, Option, Some, Result, Ok, Err}
use Rattle.std.specs.Prelude.{encode_utf8_all}
use Rattle.std.specs.Io.KnownBytes.{IsAtEnd}
use Rattle.opid.specs.declared.refusal.Refusal.{Refusal}
use Rattle.opid.specs.declared.refusal.Refusal.TheVariants as Why
use Rattle.opid.specs.declared.refusal.Refusal.TheVariants.{BadSnapshot, SiteUsed, BadVersion}
use Rattle.opid.specs.Operations.{Operation}
use Rattle.opid.specs.Reading.{reading_at}
use Rattle.room.specs.declared.owned.RoomDesk.{RoomDesk}
use Rattle.room_model.specs.Machine.{room_over}
use Rattle.room_model.specs.History.{Account, account_over}
use Rattle.room.specs.OwnedDesk.{room_step, room_fault}
use Rattle.snapshot.specs.Snapshot.{StandsFor, StandsForNone, LacksSite, HasSite, log_text}
use Rattle.line_engine.specs.AnsweredRequests.{AnswersRequest}
use Rattle.line_engine.specs.Lines.{FallsShort, IsFirstLine, ended}
use Rattle.line_engine.specs.ServedLines.{Serves}
use Rattle.line_engine.specs.declared.fault.ServeFault.{ServeFault}
use Rattle.line_engine.specs.declared.fault.ServeFault.TheVariants.{Read, Write, Memory}
use Rattle.commands.specs.declared.stop.Stop.{Stop}
use Rattle.commands.specs.declared.stop.Stop.TheVariants.{Refused, Fault, Socket, Files}
use Rattle.room_model.specs.World.{empty_rooms}
use Rattle.commands.specs.Worlds.{AnswersLine, readings}

-- why a refusal stops a run: for want of memory it is a fault
abbrev pub stop_of : Refusal → Stop
stop_of Why.Memory = Fault Memory
stop_of why = Refused why

-- how the faults of a run's end are counted: a refusal is none
abbrev pub served_end : {T : Type 0} → Result T Stop → Result (Unit {0}) ServeFault
served_end (Ok done) = Ok tt
served_end (Err (Refused why)) = Ok tt
served_end (Err (Fault why)) = Err why
served_end (Err Socket) = Ok tt
served_end (Err Files) = Ok tt

-- ---- `lines`

-- the room opens over no log, and nothing is read for it; or over that of the first line
abbrev pub OpensOver : Bool → ℕ → Option (List ℕ) → List ℕ → Bool → List Operation → List ℕ → Type 0
OpensOver false site left got over log rest = (over ≡ false) × (log ≡ []) × (rest ≡ got)
OpensOver true site left got over log rest =
    (line : List ℕ) × IsFirstLine over left got line rest × StandsFor line log × LacksSite site log

-- why no room opens: a read failed, or memory was refused, or the first line is no snapshot, or has an operation of the site
abbrev pub OpensNot : Bool → ℕ → Option (List ℕ) → List ℕ → Stop → Type 0
OpensNot resume site left got (Fault Read) = resume ≡ true
OpensNot resume site left got (Fault Write) = ⊥
OpensNot resume site left got (Fault Memory) = resume ≡ false → got ≡ []
OpensNot resume site left got Socket = ⊥
OpensNot resume site left got Files = ⊥
OpensNot resume site left got (Refused why) = (resume ≡ true)
    × ((line : List ℕ) × (rest : List ℕ) × (over : Bool) × IsFirstLine over left got line rest
    × (((why ≡ BadSnapshot) × StandsForNone line) ⊎ ((why ≡ SiteUsed) × HasSite site line)))

-- a text is written: whole, or at a fault of the writer less than that, or for want of memory nothing
abbrev pub Writes : {T : Type 0} → List ℕ → List ℕ → Result T Stop → Type 0
Writes text written (Ok done) = written ≡ text
Writes text written (Err (Fault Read)) = ⊥
Writes text written (Err (Fault Write)) = FallsShort written text
Writes text written (Err (Fault Memory)) = written ≡ []
Writes text written (Err (Refused why)) = ⊥
Writes text written (Err Socket) = ⊥
Writes text written (Err Files) = ⊥

-- what comes after the answers, once all lines were served: nothing, or the snapshot's line
abbrev pub Closes : {T U : Type 0} → Bool → List Operation → List ℕ → Result T ServeFault → Result U Stop → Type 0
Closes snapshot log last (Err why) end = (last ≡ []) × (end ≡ Err (Fault why))
Closes true log last (Ok done) end = Writes (ended (log_text log)) last end
Closes false log last (Ok done) end = Writes [] last end × (served_end end ≡ Ok tt)

-- a room's desk serves lines, and what comes after the answers is the snapshot of the log that the room has then
pub record ServesRoom {T : Type 0} (room : Account) (snapshot : Bool) (got : List ℕ) (left : Option (List ℕ)) (written : List ℕ)
    (end : Result T Stop) : Type 0 where
  pub desk : RoomDesk
  pub after : RoomDesk
  pub answers : List ℕ
  pub last : List ℕ
  pub served : Result (Unit {0}) ServeFault
  pub opens : desk.room ≡ room
  pub serves : Serves (AnswersRequest room_step room_fault) desk got left answers served after
  pub whole : written ≡ answers ++ last
  pub closes : Closes snapshot after.room.state.log last served end

-- no room opens and nothing is written, or a room opens and is served
abbrev pub PlaysLines : {T : Type 0} → ℕ → Bool → Bool → List ℕ → Option (List ℕ) → List ℕ → Result T Stop → Type 0
PlaysLines site resume snapshot got left written end =
    ((why : Stop) × OpensNot resume site left got why × (written ≡ []) × (end ≡ Err why))
    ⊎ ((over : Bool) × (log : List Operation) × (rest : List ℕ) × OpensOver resume site left got over log rest
    × ServesRoom (account_over (room_over site log)) snapshot rest left written end)

-- ---- `text`

-- the reading of a version and LF, in UTF-8
abbrev pub reading_line : List Operation → ℕ → List ℕ
reading_line log version = ended (encode_utf8_all (reading_at log version))

-- the input is read, and stands for a log, whose reading is written; or it is refused, or a fault is met before a byte is written
abbrev pub PlaysText : {T : Type 0} → Option ℕ → List ℕ → Option (List ℕ) → List ℕ → Result T Stop → Type 0
PlaysText version got left written (Err (Fault Read)) = written ≡ []
PlaysText version got left written (Err (Fault Memory)) = written ≡ []
PlaysText version got left written (Err (Refused why)) = (written ≡ []) × IsAtEnd left
    × (((why ≡ BadSnapshot) × StandsForNone got)
    ⊎ ((log : List Operation) × (v : ℕ) × (why ≡ BadVersion) × StandsFor got log × (version ≡ Some v) × (length log < v)))
PlaysText version got left written end = IsAtEnd left
    × ((log : List Operation) × StandsFor got log × (unwrap_or version (length log) ≤ length log)
    × Writes (reading_line log (unwrap_or version (length log))) written end)

-- ---- `world`

-- what comes after the answers, once all lines were served
abbrev pub ClosesWith : {T U : Type 0} → List ℕ → List ℕ → Result T ServeFault → Result U Stop → Type 0
ClosesWith text last (Err why) end = (last ≡ []) × (end ≡ Err (Fault why))
ClosesWith text last (Ok done) end = Writes text last end

-- a world of empty rooms answers the lines, and what comes after the answers is what its sites then read
pub record ServesWorld {T : Type 0} (sites : ℕ) (got : List ℕ) (left : Option (List ℕ)) (written : List ℕ)
    (end : Result T Stop) : Type 0 where
  pub after : List Account
  pub answers : List ℕ
  pub last : List ℕ
  pub served : Result (Unit {0}) ServeFault
  pub serves : Serves AnswersLine (empty_rooms 0 sites) got left answers served after
  pub whole : written ≡ answers ++ last
  pub closes : ClosesWith (readings after) last served end

-- there was no memory for the buffer and the rooms, and nothing was read or written; or lines are served
abbrev pub PlaysWorld : {T : Type 0} → ℕ → List ℕ → Option (List ℕ) → List ℕ → Result T Stop → Type 0
PlaysWorld sites got left written end =
    ((got ≡ []) × (written ≡ []) × (end ≡ Err (Fault Memory))) ⊎ ServesWorld sites got left written end
