-- What the first pass of a hall has seen of its rooms, and a pass that was split off.
use Rattle.std.proofs.Common.{◌≡◌, ℕ, zero, suc, ◌<◌, List, [], ◌∷◌, length, map, Option, Some, None, slice_get}
use Rattle.std.proofs.Common.{◌++◌, ◌+◌, string_bytes, All}
use Rattle.std.proofs.lemmas.List.Elements.{All-nil, All-cons}
use Rattle.std.specs.List.{range_with_len}
use Rattle.std.proofs.Common.{refl, ap, ap₂, sym, subst, ◌∙◌, arith}
use Rattle.std.proofs.lemmas.List.{length-map}
use Rattle.std.proofs.lemmas.Option.{slice_get_within}
use Rattle.room_model.specs.Machine.{State, room_over}
use Rattle.room_model.specs.History.{state_of}
use Rattle.shared_room.specs.declared.pass.Pass.{Pass}
use Rattle.shared_room.specs.declared.shared.SharedRoom.{SharedRoom}
use Rattle.shared_room.specs.Views.{View, view, left, opening}
use Rattle.ws_server.specs.declared.hall.Hall.{Hall}
use Rattle.ws_server.specs.declared.hall.HallPass.{HallPass}
use Rattle.ws_server.specs.Halls.{rooms_of, first_view, IsOpenedOver, AreSplit}
use Rattle.keeper.specs.Kept.{Keeps}
use Rattle.keeper.specs.declared.kept.KeptFile.{KeptFile}
use Rattle.kept_rooms.specs.SeenLogs.{log_between, seen_log, SeeAlike}
use Rattle.kept_rooms.specs.Keeping.{IsFileOf}
use Rattle.kept_rooms.specs.declared.opening.Opening.{Opening}
use Rattle.kept_rooms.specs.Openings.{replica_over}

-- where two lists have the same images, there is an element of the first with the image of that of the second
mapped_at : {A B C : Type 0} (f : A → C) (g : B → C) (xs : List A) (ys : List B) (k : ℕ) (y : B) → map f xs ≡ map g ys
    → slice_get ys k ≡ Some y → (x : A) × (slice_get xs k ≡ Some x) × (f x ≡ g y)
mapped_at f g [] [] k y same there = absurd cc
mapped_at f g [] (z ∷ ys) k y same there = absurd (cc same)
mapped_at f g (x ∷ xs) [] k y same there = absurd (cc same)
mapped_at {A} {B} {C} f g (x ∷ xs) (z ∷ ys) zero y same there =
    let one : z ≡ y = cc there in
    let head : f x ≡ g z = cc same in
    (x, refl, head ∙ ap g one)
mapped_at {A} {B} {C} f g (x ∷ xs) (z ∷ ys) (suc k) y same there =
    let tails : map f xs ≡ map g ys = cc same in
    mapped_at f g xs ys k y tails there

-- there is an element at each place within
pub within_at : {A : Type 0} (xs : List A) (k : ℕ) → k < length xs → (x : A) × (slice_get xs k ≡ Some x)
within_at [] k less = absurd (omega (arith, less))
within_at (x ∷ xs) zero less = (x, refl)
within_at {A} (x ∷ xs) (suc k) less = within_at xs k (omega (arith, less))

-- a new pass has seen nothing, so that the log is that of the opening
pub opened_seen : (names : List (List ℕ)) (openings : List Opening) (hall : Hall) (pass : HallPass) (at : ℕ) (it : Opening)
    → IsOpenedOver names (map replica_over openings) hall pass → slice_get openings at ≡ Some it
    → (room : SharedRoom) × (slice_get (rooms_of hall) at ≡ Some room) × (opening room ≡ room_over it.site it.doc.log)
    × (seen_log hall at pass ≡ it.doc.log)
opened_seen names openings hall pass at it opened there =
    let rooms : map opening (rooms_of hall) ≡ map (λ (o : Opening). room_over o.site o.doc.log) openings =
    opened.rooms ∙ flat openings in
    let room = mapped_at opening (λ (o : Opening). room_over o.site o.doc.log) (rooms_of hall) openings at it rooms there in
    let count : length names ≡ length (rooms_of hall) =
    ap length (sym opened.names) ∙ length-map hall.rooms.entries (λ e. string_bytes e.0) ∙ sym (length-map hall.rooms.entries (λ e. e.1)) in
    let less : at < length (rooms_of hall) = slice_get_within (rooms_of hall) at room.0 room.1 in
    let name = within_at names at (omega (arith, count, less)) in
    let pass_there = mapped_at view (λ (name : List ℕ). first_view) pass.passes.items names at name.0 opened.passes name.1 in (
      room.0,
      room.1,
      room.2,
      ap₂ log_between room.1 pass_there.1
          ∙ ap (λ (v : View). (state_of (opening room.0) v.seen).log) pass_there.2 ∙ ap (λ (S : State). S.log) room.2,
    )
  where
    flat : (openings : List Opening) → map (λ r. room_over r.site r.log) (map replica_over openings)
        ≡ map (λ (o : Opening). room_over o.site o.doc.log) openings
    flat [] = refl
    flat (o ∷ openings) = ap (λ l. room_over o.site o.doc.log ∷ l) (flat openings)

-- so each file is that of its room
pub opened_file : {D : Type 0} (honest : D → Type 0) (seen : D → List ℕ) (may_leave : D → List ℕ → Type 0) (fresh : D → ℕ)
    (names : List (List ℕ)) (openings : List Opening) (hall : Hall) (pass : HallPass) (file : KeptFile D) (it : Opening)
    → it.site < 32 → IsOpenedOver names (map replica_over openings) hall pass → slice_get openings file.room ≡ Some it
    → Keeps honest seen may_leave fresh file it.doc.log → IsFileOf honest seen may_leave fresh hall pass file
opened_file honest seen may_leave fresh names openings hall pass file it one opened there keeps =
    let found = opened_seen names openings hall pass file.room it opened there in
    record {
      within = slice_get_within (rooms_of hall) file.room found.0 found.1;
      over = record {
        room = found.0;
        there = found.1;
        site = it.site;
        log = it.doc.log;
        one = one;
        opened = found.2;
        lawful = keeps.front.lawful;
        few = keeps.front.few;
      };
      keeps = subst (Keeps honest seen may_leave fresh file) (sym found.3) keeps;
    }

-- what passes have seen that were split, at each place
split_at : (count : ℕ) (old new given : List Pass) (at : ℕ) (room : Option SharedRoom) → AreSplit count (length old) old new given
    → (log_between room (slice_get new at) ≡ log_between room (slice_get old at))
    × (log_between room (slice_get given at) ≡ log_between room (slice_get old at))
split_at count [] new given at room split =
    (ap (λ l. log_between room (slice_get l at)) split.0, ap (λ l. log_between room (slice_get l at)) split.1)
split_at count (p ∷ old) [] given at room split = absurd split
split_at count (p ∷ old) (q ∷ new) [] at room split = absurd split
split_at count (p ∷ old) (q ∷ new) (r ∷ given) zero None split = (refl, refl)
split_at count (p ∷ old) (q ∷ new) (r ∷ given) zero (Some room) split =
    (ap (λ (v : View). (state_of (opening room) v.seen).log) split.0, ap (λ (v : View). (state_of (opening room) v.seen).log) split.1)
split_at count (p ∷ old) (q ∷ new) (r ∷ given) (suc at) room split = split_at count old new given at room split.2

-- the file of a room is it for each pass that has seen the same
pub alike_file : {D : Type 0} (honest : D → Type 0) (seen : D → List ℕ) (may_leave : D → List ℕ → Type 0) (fresh : D → ℕ)
    (hall : Hall) (pass other : HallPass) (file : KeptFile D) → SeeAlike hall pass other
    → IsFileOf honest seen may_leave fresh hall pass file → IsFileOf honest seen may_leave fresh hall other file
alike_file honest seen may_leave fresh hall pass other file alike is = record {
  within = is.within;
  over = is.over;
  keeps = subst (Keeps honest seen may_leave fresh file) (sym (alike file.room)) is.keeps;
}

-- so passes that were split have seen what the one had before
pub alike_split : (hall : Hall) (first old new given : HallPass) (count : ℕ) → SeeAlike hall first old
    → AreSplit count (length old.passes.items) old.passes.items new.passes.items given.passes.items
    → SeeAlike hall first new × SeeAlike hall first given
alike_split hall first old new given count alike split =
    let logs : (at : ℕ) → (seen_log hall at new ≡ seen_log hall at old) × (seen_log hall at given ≡ seen_log hall at old) =
    λ at. split_at count old.passes.items new.passes.items given.passes.items at (slice_get (rooms_of hall) at) split in
    (λ at. (logs at).0 ∙ alike at, λ at. (logs at).1 ∙ alike at)

-- one number more
range_suc : (a n last : ℕ) → last ≡ a + n → range_with_len a (suc n) ≡ range_with_len a n ++ last ∷ []
range_suc a zero last is = ap (λ (m : ℕ). m ∷ []) (let e : a ≡ last = omega (arith, is) in e)
range_suc a (suc n) last is = ap (λ l. a ∷ l) (range_suc (a + 1) n last (let e : last ≡ a + 1 + n = omega (arith, is) in e))

pub range_more : (n : ℕ) → range_with_len 0 (n + 1) ≡ range_with_len 0 n ++ n ∷ []
range_more n =
    let e : n + 1 ≡ suc n = omega arith in
    let f : n ≡ 0 + n = omega arith in
    ap (range_with_len 0) e ∙ range_suc 0 n n f

-- a pass that was split off has so many draws of each room
pub draws_split : (count n : ℕ) (old new given : List Pass) → AreSplit count n old new given → All (λ (p : Pass). left p ≡ count) given
draws_split count zero old new given split =
    let P : Pass → Type 0 = λ p. left p ≡ count in
    subst (All P) (sym split.1) (All-nil P)
draws_split count (suc n) (p ∷ old) (q ∷ new) (r ∷ given) split =
    All-cons (λ (p : Pass). left p ≡ count) r given (ap (λ (v : View). v.left) split.1) (draws_split count n old new given split.2)
draws_split count (suc n) [] new given split = absurd split
draws_split count (suc n) (p ∷ old) [] given split = absurd split
draws_split count (suc n) (p ∷ old) (q ∷ new) [] split = absurd split
