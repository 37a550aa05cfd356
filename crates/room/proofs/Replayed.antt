-- A legal history over a lawful log makes a room as rooms are.
use Rattle.std.proofs.Common.{◌≡◌, ℕ, ◌+◌, ◌<◌, ◌≤◌, Bool, true, false, Some, None, Ok, Err, List, [], ◌∷◌, length}
use Rattle.std.proofs.Common.{refl, ap, ◌∙◌, sym, arith}
use Rattle.std.specs.Prelude.{nat_lt, if◌then◌else◌}
use Rattle.std.specs.List.{AllByRecursion as Each}
use Rattle.std.proofs.lemmas.Bool.{or_parts}
use Rattle.std.proofs.lemmas.Bool.Decides.{nat_tests}
use Rattle.std.proofs.lemmas.List.{length-append}
use Rattle.opid.specs.declared.refusal.Refusal.{Refusal}
use Rattle.opid.specs.declared.refusal.Refusal.TheVariants.{BadVersion, BadText, BadCount, BadPlace, Full}
use Rattle.opid.specs.Operations.{Operation}
use Rattle.opid.specs.Delivery.{clock_of}
use Rattle.opid.specs.Reading.{visible_in_at, reading_in_at}
use Rattle.opid.specs.Lawful.{IsLawful}
use Rattle.opid.specs.Splice.{is_inside}
use Rattle.opid.specs.Asked.{asked_insertions_in, asked_deletions_in, deletion_run}
use Rattle.opid.specs.Places.{is_bad_place, insertion_refusal_in, deletion_refusal_in, element_count}
use Rattle.position_translate.proofs.Asking.{insertions_lawful, deletions_lawful, length-asked_insertions, length-asked_deletions}
use Rattle.position_translate.proofs.Asking.{asked_deletions-is, outside_pairs, within, stamps}
use Rattle.opid.specs.Delivered.{AreOperations}
use Rattle.opid.specs.Delivered.{deliver}
use Rattle.replica.proofs.Lawfully.{Stands, deliver-fit}
use Rattle.opid.specs.declared.submission.Submission.TheVariants.{New, Repeat}
use Rattle.opid.specs.Sessions.{session_with}
use Rattle.opid.specs.Sessions.{submission_of}
use Rattle.room_model.specs.declared.call.Call.{Call}
use Rattle.room_model.specs.declared.call.Call.TheVariants.{Ins, Del, Put, Read}
use Rattle.room_model.specs.Deliveries.{hand_over}
use Rattle.room_model.specs.Machine.{State, Finding, room_over, counts_units, check, accepted_next, found_next, recorded_next, counted}
use Rattle.room_model.specs.Machine.{may_record, next}
use Rattle.room_model.specs.History.{state_of, IsLegal, HandsOperations, replayed, IsConsistent}
use Rattle.room.proofs.Accepted.{first_accepted, at_most}
use Rattle.room.proofs.Intentions.{none-place}
use Rattle.room.proofs.Histories.{next-site, next-count}

-- the site is one of 32, and the log is lawful and within its limit
pub record IsSited (S : State) : Type 0 where
  pub site : S.site < 32
  pub lawful : IsLawful S.log
  pub limit : length S.log ≤ 131072

-- ---- an accepted submission

-- what is against nothing has room
last_cause : (a b c d : Bool) (e : Refusal) → (if a then Some BadVersion else if b then Some e else if c then Some BadPlace else if d
    then Some Full else None) ≡ None → d ≡ false
last_cause true b c d e h = cc
last_cause false true c d e h = cc
last_cause false false true d e h = cc
last_cause false false false true e h = cc
last_cause false false false false e h = refl

pub inserted-sited : (S : State) (s n v k : ℕ) (x : List ℕ) → IsSited S → check S (Ins s n v k x) ≡ Ok New
    → IsSited (accepted_next S (Ins s n v k x))
inserted-sited S s n v k x h e =
    let u : Bool = counts_units s S.outbox in
    let asked : List Operation = asked_insertions_in u S.log S.site v k x in
    let none : insertion_refusal_in u S.log v k x ≡ None =
    first_accepted (submission_of (session_with s S.outbox.sessions) n v) (insertion_refusal_in u S.log v k x) e in
    let place : is_bad_place u S.log v k ≡ false = none-place BadVersion BadText _ _ _ _ none in
    let fits : length S.log + length x ≤ 131072 = at_most 131072 (length S.log + length x) (last_cause _ _ _ _ BadText none) in
    record {
      site = h.site;
      lawful = insertions_lawful u S.log asked S.site v k x h.lawful h.site place refl;
      limit = omega (arith, fits, length-append S.log asked, length-asked_insertions u S.log asked S.site v k x place refl);
    }

pub deleted-sited : (S : State) (s n v k c : ℕ) → IsSited S → check S (Del s n v k c) ≡ Ok New
    → IsSited (accepted_next S (Del s n v k c))
deleted-sited S s n v k c h e =
    let u : Bool = counts_units s S.outbox in
    let asked : List Operation = asked_deletions_in u S.log S.site v k c in
    let run : List Operation = deletion_run S.site (clock_of S.log) (stamps u (visible_in_at u S.log v) k (k + c)) in
    let none : deletion_refusal_in u S.log v k c ≡ None =
    first_accepted (submission_of (session_with s S.outbox.sessions) n v) (deletion_refusal_in u S.log v k c) e in
    let ends : (is_inside u (reading_in_at u S.log v) k ≡ false) × (is_bad_place u S.log v (k + c) ≡ false) =
    or_parts (is_inside u (reading_in_at u S.log v) k) _ (none-place BadVersion BadCount _ _ _ _ none) in
    let is : run ≡ asked =
    asked_deletions-is u S.log run (clock_of S.log) S.site v k c refl ends.0 (outside_pairs u S.log v (k + c) ends.1) refl in
    let size : length asked ≡ element_count u S.log v k c =
    ap length (sym is) ∙ length-asked_deletions u S.log run (clock_of S.log) S.site v k c (within u S.log v (k + c) ends.1) refl in
    let fits : length S.log + element_count u S.log v k c ≤ 131072 =
    at_most 131072 (length S.log + element_count u S.log v k c) (last_cause _ _ _ _ BadCount none) in
    record {
      site = h.site;
      lawful = deletions_lawful u S.log asked S.site v k c h.lawful h.site (within u S.log v (k + c) ends.1) ends.0
          (outside_pairs u S.log v (k + c) ends.1) refl;
      limit = omega (arith, fits, length-append S.log asked, size);
    }

-- ---- any call, and all calls

-- the room may be met in a history
abbrev Met : State → Type 0
Met S = IsSited S × AreOperations S.held

abbrev IsShort : List Operation → Type 0
IsShort log = length log ≤ 131072

handed-fit : (site : ℕ) (ops log held : List Operation) → Stands IsShort log held → AreOperations ops
    → Stands IsShort (hand_over site log held ops).log (hand_over site log held ops).held
handed-fit site [] log held h o = h
handed-fit site (x ∷ ops) log held h o = handed-fit site ops (deliver site log held x).log (deliver site log held x).held
    (deliver-fit IsShort (λ v y l b. omega (arith, l, length-append v (y ∷ []))) site log held x h o.0) o.1

accepted-met : (S : State) (c : Call) → Met S → HandsOperations c → check S c ≡ Ok New → Met (accepted_next S c)
accepted-met S (Ins s n v k x) h o e = (inserted-sited S s n v k x h.0 e, h.1)
accepted-met S (Del s n v k c) h o e = (deleted-sited S s n v k c h.0 e, h.1)
accepted-met S (Put ops) h o e =
    let stands = handed-fit S.site ops S.log S.held (h.0.lawful, h.0.limit, h.1) o in
    (record { site = h.0.site; lawful = stands.0; limit = stands.1 }, stands.2)
accepted-met S Read h o e = h
accepted-met S other h o e = (record { site = h.0.site; lawful = h.0.lawful; limit = h.0.limit }, h.1)

found-met : (S : State) (c : Call) (f : Finding) → Met S → HandsOperations c → check S c ≡ f → Met (found_next S c f)
found-met S c (Err x) h o e = h
found-met S c (Ok (Repeat start end)) h o e = h
found-met S c (Ok New) h o e = accepted-met S c h o e

next-met : (S : State) (c : Call) → Met S → HandsOperations c → Met (next S c)
next-met S c h o = go (may_record S)
  where
    m : Met (recorded_next S c)
    m = found-met S c (check S c) h o refl

    go : (t : Bool) → Met (if t then counted (recorded_next S c) else S)
    go true = (record { site = m.0.site; lawful = m.0.lawful; limit = m.0.limit }, m.1)
    go false = h

-- what a history leads to, while each of its calls is recorded
replays : (S : State) (h : List (ℕ × Call)) → Met S → Each (λ e. HandsOperations e.1) h → S.count + length h ≤ 1048576
    → IsSited (state_of S h) × ((state_of S h).count ≡ S.count + length h) × ((state_of S h).site ≡ S.site)
replays S [] m o l = (m.0, omega arith, refl)
replays S (e ∷ h) m o l =
    let below : nat_lt S.count 1048576 ≡ true = under S.count (length h) (omega (arith, l)) in
    let one : (next S e.1).count ≡ S.count + 1 = next-count S e.1 below in
    let rest = replays (next S e.1) h (next-met S e.1 m o.0) o.1 (omega (arith, l, one)) in
    (rest.0, omega (arith, rest.1, one), rest.2 ∙ next-site S e.1 below)
  where
    under : (n m : ℕ) → n + (m + 1) ≤ 1048576 → nat_lt n 1048576 ≡ true
    under n m h = grind (arith, nat_tests)

pub legal_history : (site : ℕ) (log : List Operation) (history : List (ℕ × Call)) → site < 32 → IsLawful log → length log ≤ 131072
    → IsLegal history → Each (λ e. HandsOperations e.1) history → IsConsistent (replayed (room_over site log) history)
legal_history site log history b lawful short legal o =
    let led = replays (room_over site log) history (record { site = b; lawful = lawful; limit = short }, tt) o
    (omega (arith, legal.limit)) in
    record {
      opened = refl;
      replays = refl;
      legal = legal;
      counted = omega (arith, led.1);
      site = omega (arith, b, led.2);
      lawful = led.0.lawful;
      short = led.0.limit;
    }
