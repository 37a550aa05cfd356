-- The numbers and names of refusals, which are the server's own.
use Rattle.std.specs.Prelude.{ℕ, List, codes}
use Rattle.opid.specs.declared.refusal.Refusal.{Refusal}
use Rattle.opid.specs.declared.refusal.Refusal.TheVariants.{BadJson, BadField, UnknownKind, NoRoom, NoSession, TooManySessions, BadNumber}
use Rattle.opid.specs.declared.refusal.Refusal.TheVariants.{BadVersion, BadPlace, BadText, BadCount, Full, HistoryFull, BadSite, BadClock}
use Rattle.opid.specs.declared.refusal.Refusal.TheVariants.{OwnSite, Conflict, HoldFull, NotRising, UnknownElement, NotOlder, BadHave}
use Rattle.opid.specs.declared.refusal.Refusal.TheVariants.{BadRange, Busy, Worn, Memory, SiteUsed, BadSnapshot, TooLong}

-- the number by which replies tell a refusal
abbrev pub number_of : Refusal → ℕ
number_of BadJson = 1
number_of BadField = 2
number_of UnknownKind = 3
number_of NoRoom = 4
number_of NoSession = 5
number_of TooManySessions = 6
number_of BadNumber = 7
number_of BadVersion = 8
number_of BadPlace = 9
number_of BadText = 10
number_of BadCount = 11
number_of Full = 12
number_of HistoryFull = 13
number_of BadSite = 14
number_of BadClock = 15
number_of OwnSite = 16
number_of Conflict = 17
number_of HoldFull = 18
number_of NotRising = 19
number_of UnknownElement = 20
number_of NotOlder = 21
number_of BadHave = 22
number_of BadRange = 23
number_of Busy = 24
number_of Worn = 25
number_of Memory = 26
number_of SiteUsed = 27
number_of BadSnapshot = 28
number_of TooLong = 29

-- the name by which messages tell it
abbrev pub name_of : Refusal → List ℕ
name_of BadJson = codes "BadJson"
name_of BadField = codes "BadField"
name_of UnknownKind = codes "UnknownKind"
name_of NoRoom = codes "NoRoom"
name_of NoSession = codes "NoSession"
name_of TooManySessions = codes "TooManySessions"
name_of BadNumber = codes "BadNumber"
name_of BadVersion = codes "BadVersion"
name_of BadPlace = codes "BadPlace"
name_of BadText = codes "BadText"
name_of BadCount = codes "BadCount"
name_of Full = codes "Full"
name_of HistoryFull = codes "HistoryFull"
name_of BadSite = codes "BadSite"
name_of BadClock = codes "BadClock"
name_of OwnSite = codes "OwnSite"
name_of Conflict = codes "Conflict"
name_of HoldFull = codes "HoldFull"
name_of NotRising = codes "NotRising"
name_of UnknownElement = codes "UnknownElement"
name_of NotOlder = codes "NotOlder"
name_of BadHave = codes "BadHave"
name_of BadRange = codes "BadRange"
name_of Busy = codes "Busy"
name_of Worn = codes "Worn"
name_of Memory = codes "Memory"
name_of SiteUsed = codes "SiteUsed"
name_of BadSnapshot = codes "BadSnapshot"
name_of TooLong = codes "TooLong"
