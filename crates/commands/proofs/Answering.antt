-- The answer to a line of a script is that to its event, or its refusal.
use Rattle.std.proofs.Common.{◌≡◌, ℕ, ◌+◌, ◌<◌, ◌≤◌, zero, suc, List, ◌++◌, length, Result, Ok, Err, inl, inr, refl, sym, ap, subst, ◌∙◌}
use Rattle.std.proofs.Common.{arith, append_assoc, append-nil}
use Rattle.std.specs.Prelude.{◌⊎◌}
use Rattle.std.specs.List.{flat_map, range_with_len}
use Rattle.std.proofs.Math.Logic.{⊎_elim}
use Rattle.std.proofs.lemmas.Bool.{cases_lt}
use Rattle.opid.specs.declared.refusal.Refusal.{Refusal}
use Rattle.opid.specs.declared.refusal.Refusal.TheVariants.{TooLong, Memory}
use Rattle.room_model.specs.History.{Account}
use Rattle.room_model.specs.declared.reply.Reply.TheVariants.{No}
use Rattle.room_model.specs.declared.event.Event.{Event}
use Rattle.wire_json.specs.Text.{text}
use Rattle.commands.specs.Script.{Asks}
use Rattle.commands.specs.Worlds.{AnswersEventAsked, AnswersEvent, AnswersLine}

-- the answer to a line that asks for an event is that to the event
pub answers_event : (old new : List Account) (line answer : List ℕ) (event : Event) (asked : Result Event Refusal)
    → Asks line asked → asked ≡ Ok event → AnswersEvent old event answer new → AnswersLine old line answer new
answers_event old new line answer event asked h is told =
    inl (asked, h, subst (λ (r : Result Event Refusal). AnswersEventAsked old r answer new) (sym is) told)

-- the refusal of memory is not that of a line that is too long
within_limit : (line : List ℕ) (why : Refusal) (r : Result Event Refusal) → r ≡ Err why → (65600 < length line → r ≡ Err TooLong)
    → why ≡ Memory → length line ≤ 65600
within_limit line why r same long is =
    ⊎_elim (λ (h : 65600 < length line). let e = long h in cc) (λ (h : length line ≤ 65600). h) (cases_lt 65600 (length line))

-- the answer to a line that is refused
pub answers_refusal : (world : List Account) (line : List ℕ) (why : Refusal) (r asked : Result Event Refusal) → r ≡ Err why
    → Asks line asked → (65600 < length line → r ≡ Err TooLong) → (why ≡ Memory) ⊎ (asked ≡ Err why)
    → AnswersLine world line (text (No why)) world
answers_refusal world line why r asked same h long (inl e) = inr (within_limit line why r same long e, ap (λ w. text (No w)) e, refl)
answers_refusal world line why r asked same h long (inr is) =
    inl (asked, h, subst (λ (r : Result Event Refusal). AnswersEventAsked world r (text (No why)) world) (sym is) (refl, refl))

-- ---- lines of sites

-- what is told of one number more
more_by_suc : (f : ℕ → List ℕ) (a n : ℕ) → flat_map f (range_with_len a (suc n)) ≡ flat_map f (range_with_len a n) ++ f (a + n)
more_by_suc f a zero = append-nil (f a) ∙ ap f (omega arith)
more_by_suc f a (suc n) =
    ap (λ t. f a ++ t) (more_by_suc f (a + 1) n)
    ∙ sym (append_assoc (f a) (flat_map f (range_with_len (a + 1) n)) (f (a + 1 + n)))
    ∙ ap (λ m. (f a ++ flat_map f (range_with_len (a + 1) n)) ++ f m) (omega arith)

pub one_more : (f : ℕ → List ℕ) (n m : ℕ) → m ≡ n + 1 → flat_map f (range_with_len 0 m) ≡ flat_map f (range_with_len 0 n) ++ f n
one_more f n m is =
    let next : m ≡ suc n = omega arith in
    let from : 0 + n ≡ n = omega arith in
    ap (λ k. flat_map f (range_with_len 0 k)) next ∙ more_by_suc f 0 n ∙ ap (λ k. flat_map f (range_with_len 0 n) ++ f k) from
