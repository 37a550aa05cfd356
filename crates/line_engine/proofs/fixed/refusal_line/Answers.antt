-- Each line is the text of its refusal, whose number is written out.
use Rattle.std.proofs.Common.{refl}
use Rattle.std.specs.Fmt.{digits}
use Rattle.line_engine.proofs.fixed.refusal_line.Goals as goal

pub returns-in-BadJson : goal.returns-in-BadJson
unfolding digits
returns-in-BadJson c = rw c.in-BadJson.is refl

pub returns-in-BadField : goal.returns-in-BadField
unfolding digits
returns-in-BadField c = rw c.in-BadField.is refl

pub returns-in-UnknownKind : goal.returns-in-UnknownKind
unfolding digits
returns-in-UnknownKind c = rw c.in-UnknownKind.is refl

pub returns-in-NoRoom : goal.returns-in-NoRoom
unfolding digits
returns-in-NoRoom c = rw c.in-NoRoom.is refl

pub returns-in-NoSession : goal.returns-in-NoSession
unfolding digits
returns-in-NoSession c = rw c.in-NoSession.is refl

pub returns-in-TooManySessions : goal.returns-in-TooManySessions
unfolding digits
returns-in-TooManySessions c = rw c.in-TooManySessions.is refl

pub returns-in-BadNumber : goal.returns-in-BadNumber
unfolding digits
returns-in-BadNumber c = rw c.in-BadNumber.is refl

pub returns-in-BadVersion : goal.returns-in-BadVersion
unfolding digits
returns-in-BadVersion c = rw c.in-BadVersion.is refl

pub returns-in-BadPlace : goal.returns-in-BadPlace
unfolding digits
returns-in-BadPlace c = rw c.in-BadPlace.is refl

pub returns-in-BadText : goal.returns-in-BadText
unfolding digits
returns-in-BadText c = rw c.in-BadText.is refl

pub returns-in-BadCount : goal.returns-in-BadCount
unfolding digits
returns-in-BadCount c = rw c.in-BadCount.is refl

pub returns-in-Full : goal.returns-in-Full
unfolding digits
returns-in-Full c = rw c.in-Full.is refl

pub returns-in-HistoryFull : goal.returns-in-HistoryFull
unfolding digits
returns-in-HistoryFull c = rw c.in-HistoryFull.is refl

pub returns-in-BadSite : goal.returns-in-BadSite
unfolding digits
returns-in-BadSite c = rw c.in-BadSite.is refl

pub returns-in-BadClock : goal.returns-in-BadClock
unfolding digits
returns-in-BadClock c = rw c.in-BadClock.is refl

pub returns-in-OwnSite : goal.returns-in-OwnSite
unfolding digits
returns-in-OwnSite c = rw c.in-OwnSite.is refl

pub returns-in-Conflict : goal.returns-in-Conflict
unfolding digits
returns-in-Conflict c = rw c.in-Conflict.is refl

pub returns-in-HoldFull : goal.returns-in-HoldFull
unfolding digits
returns-in-HoldFull c = rw c.in-HoldFull.is refl

pub returns-in-NotRising : goal.returns-in-NotRising
unfolding digits
returns-in-NotRising c = rw c.in-NotRising.is refl

pub returns-in-UnknownElement : goal.returns-in-UnknownElement
unfolding digits
returns-in-UnknownElement c = rw c.in-UnknownElement.is refl

pub returns-in-NotOlder : goal.returns-in-NotOlder
unfolding digits
returns-in-NotOlder c = rw c.in-NotOlder.is refl

pub returns-in-BadHave : goal.returns-in-BadHave
unfolding digits
returns-in-BadHave c = rw c.in-BadHave.is refl

pub returns-in-BadRange : goal.returns-in-BadRange
unfolding digits
returns-in-BadRange c = rw c.in-BadRange.is refl

pub returns-in-Busy : goal.returns-in-Busy
unfolding digits
returns-in-Busy c = rw c.in-Busy.is refl

pub returns-in-Worn : goal.returns-in-Worn
unfolding digits
returns-in-Worn c = rw c.in-Worn.is refl

pub returns-in-Memory : goal.returns-in-Memory
unfolding digits
returns-in-Memory c = rw c.in-Memory.is refl

pub returns-in-SiteUsed : goal.returns-in-SiteUsed
unfolding digits
returns-in-SiteUsed c = rw c.in-SiteUsed.is refl

pub returns-in-BadSnapshot : goal.returns-in-BadSnapshot
unfolding digits
returns-in-BadSnapshot c = rw c.in-BadSnapshot.is refl

pub returns-in-TooLong : goal.returns-in-TooLong
unfolding digits
returns-in-TooLong c = rw c.in-TooLong.is refl
