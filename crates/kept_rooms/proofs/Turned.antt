-- What a turn of a file does, by the look that it took.
use Rattle.std.proofs.Common.{◌≡◌, ◌≤◌, ◌<◌, ◌⊎◌, ℕ, List, ◌++◌, length, drop, Result, Ok, ap, subst, sym, ◌∙◌, arith}
use Rattle.std.proofs.lemmas.List.{length-append}
use mathlib.Core.List.{IsPrefix}
use Rattle.opid.specs.declared.refusal.Refusal.{Refusal}
use Rattle.opid.specs.Operations.{Operation}
use Rattle.opid.specs.Lawful.{IsLawful}
use Rattle.shared_room.specs.declared.look.Look.{Look}
use Rattle.ws_server.specs.declared.hall.Hall.{Hall}
use Rattle.ws_server.specs.declared.hall.HallPass.{HallPass}
use Rattle.ws_server.specs.Halls.{rooms_of, IsHallPassOf}
use Rattle.ws_server.specs.Keeping.{LooksInto}
use Rattle.keeper.specs.Disk.{LeavesOnly}
use Rattle.keeper.specs.Kept.{Keeps}
use Rattle.keeper.specs.Turn.{OpensAs}
use Rattle.keeper.specs.declared.kept.KeptFile.{KeptFile}
use Rattle.kept_rooms.specs.SeenLogs.{seen_log}
use Rattle.kept_rooms.specs.Keeping.{IsOverLog, IsFileOf}
use Rattle.kept_rooms.proofs.SeenGrow.{grown, sound, shown}

-- the file of a room is it for each pass that has seen no less
pub grown_file : {D : Type 0} (honest : D → Type 0) (seen : D → List ℕ) (may_leave : D → List ℕ → Type 0) (fresh : D → ℕ)
    → ((file : KeptFile D) (log more : List Operation) → Keeps honest seen may_leave fresh file log → IsLawful (log ++ more)
    → length (log ++ more) ≤ 131072 → Keeps honest seen may_leave fresh file (log ++ more))
    → (hall : Hall) (pass later : HallPass) (file : KeptFile D) → IsHallPassOf hall later
    → IsPrefix (seen_log hall file.room pass) (seen_log hall file.room later)
    → IsFileOf honest seen may_leave fresh hall pass file → IsFileOf honest seen may_leave fresh hall later file
grown_file honest seen may_leave fresh grows hall pass later file is_pass begins is =
    let sure = sound hall file.room later is_pass is.over in
    record {
      within = is.within;
      over = is.over;
      keeps = subst (Keeps honest seen may_leave fresh file) begins.1
          (grows file (seen_log hall file.room pass) begins.0 is.keeps (subst IsLawful (sym begins.1) sure.0)
          (subst (λ l. length l ≤ 131072) (sym begins.1) sure.1));
    }

-- a look at the place of the file's room is one at that room
at_room : (hall : Hall) (at room after : ℕ) (pass pass' : HallPass) (result : Result Look Refusal)
    → LooksInto hall at pass.passes.items after result pass'.passes.items → at ≡ room
    → LooksInto hall room pass.passes.items after result pass'.passes.items
at_room hall at room after pass pass' result looked here =
    subst (λ n. LooksInto hall n pass.passes.items after result pass'.passes.items) here looked

-- it tells how long the log is that is seen since, which is no less
pub tells : (hall : Hall) (at room after : ℕ) (pass pass' : HallPass) (look : Look)
    → LooksInto hall at pass.passes.items after (Ok look) pass'.passes.items → at ≡ room
    → look.version ≡ length (seen_log hall room pass')
tells hall at room after pass pass' look looked here =
    (shown hall room after pass pass' look (at_room hall at room after pass pass' (Ok look) looked here)).1

pub no_less_at : (hall : Hall) (at room after : ℕ) (pass pass' : HallPass) (result : Result Look Refusal)
    → LooksInto hall at pass.passes.items after result pass'.passes.items → at ≡ room
    → length (seen_log hall room pass) ≤ length (seen_log hall room pass')
no_less_at hall at room after pass pass' result looked here =
    let grows = grown hall room after pass pass' result (at_room hall at room after pass pass' result looked here) in
    let long = sym (length-append (seen_log hall room pass) grows.0) ∙ ap length grows.1 in
    omega (arith, long)

-- and what it showed is what the file lacks
pub lacking : (hall : Hall) (at room after version : ℕ) (pass pass' : HallPass) (look : Look) (ops : List Operation)
    → LooksInto hall at pass.passes.items after (Ok look) pass'.passes.items → at ≡ room → after ≡ version → ops ≡ look.ops
    → ops ≡ drop version (seen_log hall room pass')
lacking hall at room after version pass pass' look ops looked here from is =
    is ∙ (shown hall room after pass pass' look (at_room hall at room after pass pass' (Ok look) looked here)).0
    ∙ ap (λ n. drop n (seen_log hall room pass')) from

-- so the file stays that of its room
pub turned : {D : Type 0} (honest : D → Type 0) (seen : D → List ℕ) (may_leave : D → List ℕ → Type 0) (fresh : D → ℕ) (moment : D → ℕ)
    (left_since : D → ℕ → List ℕ → Type 0) (hall : Hall) (pass' : HallPass) (old new : KeptFile D)
    → new.room ≡ old.room → old.room < length (rooms_of hall) → IsOverLog hall old.room
    → Keeps honest seen may_leave fresh new (seen_log hall old.room pass')
    × ((new.mark.version ≡ length (seen_log hall old.room pass')) ⊎ (new.mark ≡ old.mark))
    × LeavesOnly moment left_since old.disk new.disk (OpensAs old.mark.version (seen_log hall old.room pass'))
    → IsFileOf honest seen may_leave fresh hall pass' new
    × ((new.mark.version ≡ length (seen_log hall old.room pass')) ⊎ (new.mark ≡ old.mark))
    × LeavesOnly moment left_since old.disk new.disk (OpensAs old.mark.version (seen_log hall old.room pass'))
turned honest seen may_leave fresh moment left_since hall pass' old new same within over (keeps, mark, left) = (
  record {
    within = subst (λ at. at < length (rooms_of hall)) (sym same) within;
    over = subst (IsOverLog hall) (sym same) over;
    keeps = subst (λ at. Keeps honest seen may_leave fresh new (seen_log hall at pass')) (sym same) keeps;
  },
  mark,
  left,
)
