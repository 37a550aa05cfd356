-- What an accepted submission asked for stays in the log where it was put, and stands at its place.
use Rattle.std.proofs.Common.{◌≡◌, ℕ, zero, suc, ◌+◌, ◌-◌, ◌<◌, ◌≤◌, Bool, true, false, Some, None, Ok, List, [], ◌∷◌, ◌++◌}
use Rattle.std.proofs.Common.{length, take, drop, refl, ap, ◌∙◌, sym, subst, arith, append_assoc}
use Rattle.std.specs.Prelude.{slice_get, if◌then◌else◌}
use Rattle.std.proofs.lemmas.Bool.{or_parts}
use Rattle.std.proofs.lemmas.List.{take_at, drop_at, take-append-le}
use Rattle.opid.specs.declared.refusal.Refusal.{Refusal}
use Rattle.opid.specs.declared.refusal.Refusal.TheVariants.{BadPlace, Full, HistoryFull}
use Rattle.opid.specs.Operations.{Operation, insertions}
use Rattle.opid.specs.Units.{items_in}
use Rattle.opid.specs.Reading.{visible_in, visible_in_at, reading_in_at}
use Rattle.opid.specs.Lawful.{IsLawful}
use Rattle.opid.specs.Delivery.{clock_of}
use Rattle.opid.specs.Splice.{is_inside}
use Rattle.opid.specs.Asked.{asked_insertions_in, asked_deletions_in, deletion_run, IsPlaced_in}
use Rattle.opid.proofs.Logs.{IsLawful-take}
use Rattle.opid.specs.Limits.{is_bad_count}
use Rattle.opid.specs.Places.{is_bad_place, insertion_refusal_in, deletion_refusal_in, element_count}
use Rattle.position_translate.proofs.Asking.{length-asked_insertions, length-asked_deletions, asked_deletions-is, insertions_placed}
use Rattle.position_translate.proofs.Asking.{outside_pairs, within, stamps}
use Rattle.opid.specs.declared.submission.Submission.TheVariants.{New}
use Rattle.opid.specs.Sessions.{session_with}
use Rattle.opid.specs.Sessions.{submission_of}
use Rattle.room_model.specs.declared.call.Call.{Call}
use Rattle.room_model.specs.declared.call.Call.TheVariants.{Ins, Del}
use Rattle.room_model.specs.declared.reply.Reply.TheVariants as replies
use Rattle.room_model.specs.Machine.{State, Finding, counts_units, check, found_answer, found_next, accepted_answer, accepted_next, counted}
use Rattle.room_model.specs.Machine.{recorded_answer, recorded_next, may_record, next}
use Rattle.room_model.specs.History.{Account, state_of, IsConsistent}
use Rattle.room_model.specs.Intention.{names_units, asked_by, StandsAsked, IsAccepted, IsIntentionKept, state_before}
use Rattle.room_model.specs.Intention.{KeepsIntentions, OnlyGrows}
use Rattle.room.proofs.Accepted.{first_accepted, at_most}
use Rattle.room.proofs.Handing.{Extends}
use Rattle.room.proofs.Histories.{next-site}
use Rattle.room.proofs.Known.{state_of-extends}

-- ---- along a history

-- the log after a call of a history is a beginning of the log at its end
next-grows : (S : State) (h : List (ℕ × Call)) (i : ℕ) (e : ℕ × Call) → slice_get h i ≡ Some e
    → Extends (next (state_of S (take i h)) e.1).log (state_of S h).log
next-grows S [] i e q = absurd cc
next-grows S (x ∷ h) zero e q =
    let same : x ≡ e = cc in subst (λ (y : ℕ × Call). Extends (next S y.1).log (state_of (next S x.1) h).log) same
    (state_of-extends (next S x.1) h)
next-grows S (x ∷ h) (suc i) e q = next-grows (next S x.1) h i e q

-- and so is the log before it
before-grows : (S : State) (h : List (ℕ × Call)) (i : ℕ) → Extends (state_of S (take i h)).log (state_of S h).log
before-grows S [] zero = state_of-extends S []
before-grows S [] (suc i) = state_of-extends S []
before-grows S (x ∷ h) zero = state_of-extends S (x ∷ h)
before-grows S (x ∷ h) (suc i) = before-grows (next S x.1) h i

any-site : (S : State) (c : Call) → (next S c).site ≡ S.site
any-site S c = by (may_record S) refl
  where
    by : (b : Bool) → may_record S ≡ b → (next S c).site ≡ S.site
    by true e = next-site S c e
    by false e = ap (λ (b : Bool). (if b then counted (recorded_next S c) else S).site) e

history-site : (S : State) (h : List (ℕ × Call)) → (state_of S h).site ≡ S.site
history-site S [] = refl
history-site S (e ∷ h) = history-site (next S e.1) h ∙ any-site S e.1

before-site : (S : State) (h : List (ℕ × Call)) (i : ℕ) → (state_of S (take i h)).site ≡ (state_of S h).site
before-site S h i = history-site S (take i h) ∙ sym (history-site S h)

-- a beginning of a lawful log is lawful
lawful_begins : (log longer : List Operation) → Extends log longer → IsLawful longer → IsLawful log
lawful_begins log longer (more, e) l =
    subst IsLawful (ap (take (length log)) e ∙ take_at log more (length log) refl) (IsLawful-take longer (length log) l)

-- ---- one submission

-- what is not refused has none of the causes
none-version : (e f : Refusal) (a b c d : Bool) → (if a then Some e else if b then Some f else if c then Some BadPlace else if d
    then Some Full else None) ≡ None → a ≡ false
none-version e f true b c d h = cc
none-version e f false b c d h = refl

pub none-place : (e f : Refusal) (a b c d : Bool) → (if a then Some e else if b then Some f else if c then Some BadPlace else if d
    then Some Full else None) ≡ None → c ≡ false
none-place e f true b c d h = cc
none-place e f false true c d h = cc
none-place e f false false true d h = cc
none-place e f false false false d h = refl

-- an accepted submission: the versions that it is answered with, its operations at the end of the log, and their place
record Goes (S : State) (c : Call) (start end : ℕ) : Type 0 where
  from : start ≡ length S.log
  to : end ≡ length S.log + length (asked_by (names_units S c) S.site S.log c)
  grown : (accepted_next S c).log ≡ S.log ++ asked_by (names_units S c) S.site S.log c
  placed : (more : List Operation) → StandsAsked (names_units S c) (S.log ++ more) c (asked_by (names_units S c) S.site S.log c)

-- a place in a version that is there is its place in any longer log
placed-longer : (u : Bool) (log more xs : List Operation) (v k : ℕ) → v ≤ length log → IsPlaced_in u log v k xs
    → IsPlaced_in u (log ++ more) v k xs
placed-longer u log more xs v k b p =
    subst (λ (l : List Operation). visible_in u (l ++ xs)
    ≡ take k (visible_in u l) ++ items_in u (insertions xs) ++ drop k (visible_in u l))
    (sym (take-append-le v log more b)) p

accepted-goes : (S : State) (c : Call) (start end : ℕ) → IsLawful S.log → S.site < 32 → check S c ≡ Ok New
    → accepted_answer S c ≡ replies.Ok start end → Goes S c start end
accepted-goes S (Ins s n v k x) start end l b a e =
    let u : Bool = counts_units s S.outbox in
    let asked : List Operation = asked_insertions_in u S.log S.site v k x in
    let none : insertion_refusal_in u S.log v k x ≡ None =
    first_accepted (submission_of (session_with s S.outbox.sessions) n v) (insertion_refusal_in u S.log v k x) a in
    let version : v ≤ length S.log = at_most (length S.log) v (none-version _ _ _ _ _ _ none) in
    let place : is_bad_place u S.log v k ≡ false = none-place _ _ _ (is_bad_count (length x)) _ _ none in
    let size : length asked ≡ length x = length-asked_insertions u S.log asked S.site v k x place refl in
    let start_is : length S.log ≡ start = cc e in
    let end_is : length S.log + length x ≡ end = cc e in
    record {
      from = sym start_is;
      to = omega (arith, end_is, size);
      grown = refl;
      placed = λ more. placed-longer u S.log more asked v k version (insertions_placed u S.log asked S.site v k x l b place refl);
    }
accepted-goes S (Del s n v k c) start end l b a e =
    let u : Bool = counts_units s S.outbox in
    let none : deletion_refusal_in u S.log v k c ≡ None =
    first_accepted (submission_of (session_with s S.outbox.sessions) n v) (deletion_refusal_in u S.log v k c) a in
    let ends : (is_inside u (reading_in_at u S.log v) k ≡ false) × (is_bad_place u S.log v (k + c) ≡ false) =
    or_parts (is_inside u (reading_in_at u S.log v) k) _ (none-place _ _ _ (is_bad_count c) _ _ none) in
    let run : List Operation = deletion_run S.site (clock_of S.log) (stamps u (visible_in_at u S.log v) k (k + c)) in
    let is : run ≡ asked_deletions_in u S.log S.site v k c =
    asked_deletions-is u S.log run (clock_of S.log) S.site v k c refl
    ends.0 (outside_pairs u S.log v (k + c) ends.1) refl in
    let size : length (asked_deletions_in u S.log S.site v k c) ≡ element_count u S.log v k c =
    ap length (sym is) ∙ length-asked_deletions u S.log run (clock_of S.log) S.site v k c (within u S.log v (k + c) ends.1) refl in
    let start_is : length S.log ≡ start = cc e in
    let end_is : length S.log + element_count u S.log v k c ≡ end = cc e in
    record { from = sym start_is; to = omega (arith, end_is, size); grown = refl; placed = λ more. tt }
accepted-goes S other start end l b a e = absurd cc

-- the same of a call that may not be recorded
goes : (S : State) (c : Call) (start end : ℕ) → IsLawful S.log → S.site < 32 → IsAccepted S c start end
    → Goes S c start end × ((next S c).log ≡ (accepted_next S c).log)
goes S c start end l b a = by (may_record S) refl a.answered
  where
    found : (f : Finding) → f ≡ Ok New → found_answer S c f ≡ accepted_answer S c
    found f e = ap (found_answer S c) e

    done : (f : Finding) → f ≡ Ok New → found_next S c f ≡ accepted_next S c
    done f e = ap (found_next S c) e

    by : (t : Bool) → may_record S ≡ t → (if t then recorded_answer S c else replies.No HistoryFull) ≡ replies.Ok start end
        → Goes S c start end × ((next S c).log ≡ (accepted_next S c).log)
    by true e q = (
      accepted-goes S c start end l b a.is_new (sym (found (check S c) a.is_new) ∙ q),
      ap (λ (t : Bool). (if t then counted (recorded_next S c) else S).log) e ∙ ap (λ (T : State). T.log) (done (check S c) a.is_new),
    )
    by false e q = absurd cc

-- what was asked for stands in any longer log between the versions that were answered
kept : (S : State) (c : Call) (start end : ℕ) (log : List Operation) → Goes S c start end
    → Extends (S.log ++ asked_by (names_units S c) S.site S.log c) log → IsIntentionKept (names_units S c) S.site log c start end
kept S c start end log g (more, e) =
    let u : Bool = names_units S c in
    let asked : List Operation = asked_by u S.site S.log c in
    let whole : log ≡ S.log ++ (asked ++ more) = e ∙ append_assoc S.log asked more in
    let front : take start log ≡ S.log = ap (take start) whole ∙ take_at S.log (asked ++ more) start (sym g.from) in
    let back : drop start log ≡ asked ++ more = ap (drop start) whole ∙ drop_at S.log (asked ++ more) start (sym g.from) in
    let count : length asked ≡ end - start = omega (arith, g.from, g.to) in
    let part : take (end - start) (drop start log) ≡ asked = ap (take (end - start)) back ∙ take_at asked more (end - start) count in
    record {
      asked = part ∙ ap (λ (l : List Operation). asked_by u S.site l c) (sym front);
      stands = subst (λ (l : List Operation). StandsAsked u l c (take (end - start) (drop start log))) (sym whole)
          (subst (StandsAsked u (S.log ++ (asked ++ more)) c) (sym part) (g.placed (asked ++ more)));
    }

-- ---- the room

from_opening : (S : State) (h : List (ℕ × Call)) → IsLawful (state_of S h).log → (state_of S h).site < 32
    → KeepsIntentions (record { opening = S; history = h; state = state_of S h })
from_opening S h l b i e start end at a =
    let before : State = state_of S (take i h) in
    let site : before.site ≡ (state_of S h).site = before-site S h i in
    let went : Goes before e.1 start end × ((next before e.1).log ≡ (accepted_next before e.1).log) =
    goes before e.1 start end (lawful_begins before.log (state_of S h).log (before-grows S h i) l) (omega (arith, b, site)) a in
    subst (λ (n : ℕ). IsIntentionKept (names_units before e.1) n (state_of S h).log e.1 start end) site
    (kept before e.1 start end (state_of S h).log went.0 (subst (λ (l : List Operation). Extends l (state_of S h).log)
    (went.1 ∙ went.0.grown) (next-grows S h i e at)))

pub keeps_intentions : (room : Account) → IsConsistent room → KeepsIntentions room
keeps_intentions room r = subst (λ (T : State). KeepsIntentions
    (record { opening = room.opening; history = room.history; state = T })) r.replays
    (from_opening room.opening room.history (subst (λ (T : State). IsLawful T.log) (sym r.replays) r.lawful)
    (subst (λ (T : State). T.site < 32) (sym r.replays) r.site))

pub only_grows : (room : Account) → IsConsistent room → OnlyGrows room
only_grows room r i b =
    let on : Extends (state_before room i).log (state_of room.opening room.history).log = before-grows room.opening room.history i in
    (on.0, sym on.1 ∙ ap (λ (T : State). T.log) r.replays)
