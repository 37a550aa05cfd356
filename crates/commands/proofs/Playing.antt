-- How the parts of a run over lines make the whole.
use Rattle.std.proofs.Common.{◌≡◌, ℕ, List, [], ◌∷◌, ◌++◌, Bool, true, false, Option, Result, Ok, Err, refl, sym, ap, subst, ◌∙◌}
use Rattle.std.proofs.Common.{append_assoc, append-nil}
use Rattle.std.specs.Io.KnownBytes.{IsAtEnd}
use Rattle.opid.specs.Operations.{Operation}
use Rattle.room.specs.declared.owned.RoomDesk.{RoomDesk}
use Rattle.room_model.specs.History.{Account}
use Rattle.room.specs.OwnedDesk.{room_step, room_fault}
use Rattle.line_engine.specs.AnsweredRequests.{AnswersRequest}
use Rattle.line_engine.specs.Lines.{cut}
use Rattle.line_engine.specs.ServedLines.{AreAnswered, Serves, ServesAll}
use Rattle.line_engine.specs.declared.fault.ServeFault.{ServeFault}
use Rattle.commands.specs.declared.stop.Stop.{Stop}
use Rattle.commands.specs.declared.stop.Stop.TheVariants.{Fault}
use Rattle.commands.specs.Played.{OpensOver, Closes, ServesRoom}

-- no line is answered where nothing is held and nothing is read
pub serves_nothing : (desk : RoomDesk) (held : List ℕ) → held ≡ []
    → ServesAll (AnswersRequest room_step room_fault) desk (held ++ []) [] desk
serves_nothing desk held none =
    let e : cut (held ++ []) ≡ [] = ap cut (append-nil held ∙ none) in
    ([], subst (λ (t : List (List ℕ)). AreAnswered (AnswersRequest room_step room_fault) desk t [] desk) (sym e) refl, refl)

-- all lines were served, and the room was closed
pub closed : (room : Account) (snapshot : Bool) (desk after : RoomDesk) (got answers last : List ℕ) (left : Option (List ℕ))
    (log : List Operation) (r : Result (Unit {0}) Stop)
    → desk.room ≡ room → Serves {T = Unit {0}} (AnswersRequest room_step room_fault) desk got left answers (Ok tt) after
    → log ≡ after.room.state.log → Closes {T = Unit {0}} snapshot log last (Ok tt) r
    → ServesRoom room snapshot got left (answers ++ last) r
closed room snapshot desk after got answers last left log r opens serves same closes = record {
  desk = desk;
  after = after;
  answers = answers;
  last = last;
  served = Ok tt;
  opens = opens;
  serves = serves;
  whole = refl;
  closes = subst (λ (l : List Operation). Closes {T = Unit {0}} snapshot l last (Ok tt) r) same closes;
}

-- the engine ended with a fault
pub broken : (room : Account) (snapshot : Bool) (desk after : RoomDesk) (got answers : List ℕ) (left : Option (List ℕ)) (why : ServeFault)
    → desk.room ≡ room → Serves {T = Unit {0}} (AnswersRequest room_step room_fault) desk got left answers (Err why) after
    → ServesRoom {T = Unit {0}} room snapshot got left answers (Err (Fault why))
broken room snapshot desk after got answers left why opens serves = record {
  desk = desk;
  after = after;
  answers = answers;
  last = [];
  served = Err why;
  opens = opens;
  serves = serves;
  whole = sym (append-nil answers);
  closes = (refl, refl);
}

-- more is read behind what a room was opened over
pub opens_more : (resume : Bool) (site : ℕ) (left left' : Option (List ℕ)) (got more : List ℕ) (over : Bool) (log : List Operation)
    (rest : List ℕ)
    → (over ≡ true → more ≡ []) → (over ≡ true → left' ≡ left)
    → OpensOver resume site left got over log rest → OpensOver resume site left' (got ++ more) over log (rest ++ more)
opens_more false site left left' got more over log rest none same (goes, empty, is) = (goes, empty, ap (λ t. t ++ more) is)
opens_more true site left left' got more false log rest none same (line, (plain, is), stands, lacks) =
    (line, (plain, ap (λ t. t ++ more) is ∙ append_assoc line (10 ∷ rest) more), stands, lacks)
opens_more true site left left' got more true log rest none same (line, (plain, is, nothing, end), stands, lacks) = (
  line,
  (
    plain,
    ap (λ t. got ++ t) (none refl) ∙ append-nil got ∙ is,
    ap (λ t. rest ++ t) (none refl) ∙ append-nil rest ∙ nothing,
    subst (λ (l : Option (List ℕ)). IsAtEnd l) (sym (same refl)) end,
  ),
  stands,
  lacks,
)
