-- A walk through a log: nothing is kept at first, then one operation more.
use Rattle.std.proofs.Common.{◌≡◌, ℕ, zero, suc, ◌+◌, ◌<◌, ◌≤◌, ◌⊎◌, inl, inr, eqb, List, [], ◌∷◌, ◌++◌, length, take, drop, replicate}
use Rattle.std.proofs.Common.{set, get_or, slice_get, Option, Some, None, false, refl, ap, ◌∙◌, sym, arith}
use Rattle.std.proofs.Common.{get_or-set_other, get_or-set_same}
use Rattle.std.proofs.Math.ListN.{drop_of_length-le}
use Rattle.std.proofs.Math.Seq.{take-suc}
use Rattle.std.proofs.lemmas.Bool.{cases_eq, cond-false, eqb-true, false_from_ne_true}
use Rattle.std.proofs.lemmas.Option.{slice_get-get_or, slice_get_within, get_or_from_slice_get}
use Rattle.std.proofs.lemmas.List.{drop_more, drop-append-le, length-drop, length-take}
use Rattle.opid.specs.Operations.{Operation}
use Rattle.opid.specs.Delivery.{count_of}
use Rattle.causal_clock.specs.declared.row.Row.{Row}
use Rattle.causal_clock.specs.Internal.Packed.{no_op, no_clocks, operation_at, row_at, logged, AreRows}
use Rattle.causal_clock.specs.Internal.Replayed.{between, AreSeen, AreAllSeen}
use Rattle.causal_clock.proofs.Telling.{count-push, length-told}

none_at : (n i : ℕ) → (let none : Option (List ℕ) = None in get_or (replicate n none) i none) ≡ None
none_at zero i = refl
none_at (suc n) zero = refl
none_at (suc n) (suc i) = none_at n i

none_some : (s : List ℕ) → (let none : Option (List ℕ) = None in none) ≡ Some s → ⊥
none_some s h = cc

-- at first nothing is kept, and nothing was passed
pub none_seen : (ops : List Operation) (place : ℕ) → AreSeen (replicate 32 None) ops place
none_seen ops place i s h = absurd (none_some s (sym (none_at 32 i) ∙ h))

pub none_passed : (ops : List Operation) (place : ℕ) → between place place ops ≡ []
none_passed ops place = drop_of_length-le (take place ops) (omega (arith, length-take place ops))

pub all_none : (seen : List (Option (List ℕ))) (passed : List Operation) → passed ≡ [] → AreAllSeen seen passed
all_none seen passed e i h = absurd (omega (arith, h, ap (λ (v : List Operation). count_of v i) e))

-- so a clock is kept of each site that was passed
pub all_more : (seen : List (Option (List ℕ))) (passed : List Operation) (x : Operation) (counts : List ℕ) → x.site < length seen
    → AreAllSeen seen passed → AreAllSeen (set seen x.site (Some counts)) (passed ++ x ∷ [])
all_more seen passed x counts l h i many = go (cases_eq i x.site)
  where
    go : (i ≡ x.site) ⊎ (i ≡ x.site → ⊥) → (t : List ℕ) × (get_or (set seen x.site (Some counts)) i None ≡ Some t)
    go (inl same) =
        (counts, ap (λ j. get_or (set seen x.site (Some counts)) j None) same ∙ get_or-set_same seen x.site (Some counts) None l)
    go (inr other) =
        let no : eqb x.site i ≡ false = false_from_ne_true (eqb x.site i) (λ q. other (sym (eqb-true x.site i q))) in
        let before = h i (omega (arith, many, count-push passed x i, cond-false {A = ℕ} (eqb x.site i) 1 0 no)) in
        (before.0, get_or-set_other seen x.site i (Some counts) None other ∙ before.1)

take-next : (ops : List Operation) (place : ℕ) (x : Operation) → place < length ops
    → take (place + 1) ops ≡ take place ops ++ get_or ops place x ∷ []
take-next ops place x l =
    let next : place + 1 ≡ suc place = omega arith in
    ap (λ n. take n ops) next ∙ take-suc ops place x l

-- the operation at the place is passed
pub passed_more : (ops : List Operation) (start place : ℕ) (x : Operation) → start ≤ place → slice_get ops place ≡ Some x
    → between start (place + 1) ops ≡ between start place ops ++ x ∷ []
passed_more ops start place x l h =
    let within : place < length ops = slice_get_within ops place x h in
    let longer : take (place + 1) ops ≡ take place ops ++ x ∷ [] =
    take-next ops place x within
    ∙ ap (λ (v : Operation). take place ops ++ v ∷ []) (get_or_from_slice_get ops place x x h) in
    ap (drop start) longer ∙ drop-append-le start (take place ops) (x ∷ []) (omega (arith, l, within, length-take place ops))

same_op : (x y : Operation) → x.site ≡ y.site → x.clock ≡ y.clock → x.kind ≡ y.kind → x ≡ y
same_op x y a b c =
    ap (λ v. let z : Operation = record { site = v; clock = x.clock; kind = x.kind } in z) a
    ∙ ap (λ v. let z : Operation = record { site = y.site; clock = v; kind = x.kind } in z) b
    ∙ ap (λ v. let z : Operation = record { site = y.site; clock = y.clock; kind = v } in z) c

-- the operation at the place, from its row and the counts of its clock
pub op_read : (es ms : List (ℕ × ℕ)) (rows : List Row) (k : ℕ) (r : Row) (counts : List ℕ) (x : Operation)
    → AreRows es ms rows (logged es rows) → k < length rows → r ≡ row_at rows k → counts ≡ (operation_at (logged es rows) k).clock
    → x ≡ record { site = r.site; clock = counts; kind = r.kind } → slice_get (logged es rows) k ≡ Some x
op_read es ms rows k r counts x h l at b e =
    let line = h k l in
    slice_get-get_or (logged es rows) k no_op (omega (arith, l, length-told no_clocks es rows))
    ∙ ap Some (sym (same_op x (operation_at (logged es rows) k)
    (ap (λ (v : Operation). v.site) e ∙ ap (λ (v : Row). v.site) at ∙ line.site)
    (ap (λ (v : Operation). v.clock) e ∙ b)
    (ap (λ (v : Operation). v.kind) e ∙ ap (λ (v : Row). v.kind) at ∙ line.kind)))

pub length-logged : (es : List (ℕ × ℕ)) (rows : List Row) → length (logged es rows) ≡ length rows
length-logged es rows = length-told no_clocks es rows

-- where something is left, the place is before the end
pub left_within : (es : List (ℕ × ℕ)) (rows : List Row) (k : ℕ) (rest : List Operation) → drop k (logged es rows) ≡ rest → 0 < length rest
    → k < length rows
left_within es rows k rest e l =
    omega (arith, l, ap (length {A = Operation}) e, length-logged es rows, length-drop k (logged es rows))

-- what is left from a place on begins with the operation there
pub left : (es : List (ℕ × ℕ)) (rows : List Row) (k : ℕ) (x : Operation) → k < length rows → slice_get (logged es rows) k ≡ Some x
    → drop k (logged es rows) ≡ x ∷ drop (k + 1) (logged es rows)
left es rows k x l h =
    drop_more (logged es rows) k x (omega (arith, l, length-logged es rows))
    ∙ ap (λ (y : Operation). y ∷ drop (k + 1) (logged es rows)) (get_or_from_slice_get (logged es rows) k x x h)
