-- The calls of a trail, and what a pass has of them.
use Rattle.std.proofs.Common.{◌≡◌, ℕ, zero, suc, ◌+◌, ◌≤◌, List, [], ◌∷◌, ◌++◌, map, length, Option, Some, None, slice_get}
use Rattle.std.proofs.Common.{refl, ap, sym, subst, ◌∙◌, arith, Bool, true, false, ◌==◌, ◌<◌}
use Rattle.std.proofs.lemmas.Bool.Decides.{nat_tests}
use mathlib.Core.List.{IsPrefix}
use Rattle.room_model.specs.declared.call.Call.{Call}
use Rattle.room_model.specs.declared.call.Call.TheVariants.{Read}
use Rattle.room_model.specs.Machine.{State}
use Rattle.room_model.specs.History.{Account, AreRisingFrom, IsLegal, state_of}
use Rattle.history_lock.specs.declared.pass.Sight.{Sight}
use Rattle.history_lock.specs.Sights.{Among, weigh}
use Rattle.history_lock.specs.Turns.{LeftFor}
use Rattle.shared_room.specs.declared.kept.Item.{Item}
use Rattle.shared_room.specs.declared.kept.Item.TheVariants.{Opened, Made}
use Rattle.shared_room.specs.Trails.{made, trail_of, calls_of, opening_in}
use Rattle.room_model.specs.Desks.{Owns}
use Rattle.room_model.specs.Desks.{AreDistinct}
use Rattle.room.specs.Internal.DeskLaws.{one_place}

pub calls_made : (h : List (ℕ × Call)) → calls_of (map made h) ≡ h
calls_made [] = refl
calls_made (e ∷ es) = ap (λ (l : List (ℕ × Call)). (e.0, e.1) ∷ l) (calls_made es)

pub calls_append : (xs ys : List Item) → calls_of (xs ++ ys) ≡ calls_of xs ++ calls_of ys
calls_append [] ys = refl
calls_append (Opened S ∷ xs) ys = calls_append xs ys
calls_append (Made t c ∷ xs) ys = ap (λ (l : List (ℕ × Call)). (t, c) ∷ l) (calls_append xs ys)

pub calls_prefix : (xs ys : List Item) → IsPrefix xs ys → IsPrefix (calls_of xs) (calls_of ys)
calls_prefix xs ys p = (calls_of p.0, sym (calls_append xs p.0) ∙ ap calls_of p.1)

-- the opening of a trail that begins another's is its opening
pub same_opening : (K R : Account) (v : Sight Item) → LeftFor v 0 (trail_of K) → v.seen ≡ trail_of R → R.opening ≡ K.opening
same_opening K R v l is = ap opening_in (sym (l.begins.1 ∙ is))

-- an entry of a trail's calls stands in the trail
at_item : (xs : List Item) (k : ℕ) (e : ℕ × Call) → slice_get (calls_of xs) k ≡ Some e → (i : ℕ) × (slice_get xs i ≡ Some (made e))
at_item [] k e h = absurd cc
at_item (Opened S ∷ xs) k e h = let r = at_item xs k e h in (suc r.0, r.1)
at_item (Made t c ∷ xs) zero e h = (0, ap (λ (o : Option (ℕ × Call)). option_made o) h)
  where
    option_made : Option (ℕ × Call) → Option Item
    option_made None = None
    option_made (Some f) = Some (made f)
at_item (Made t c ∷ xs) (suc k) e h = let r = at_item xs k e h in (suc r.0, r.1)

unmade : Item → ℕ × Call
unmade (Opened S) = (0, Read)
unmade (Made t c) = (t, c)

made_injective : (e f : ℕ × Call) → made e ≡ made f → e ≡ f
unfolding unmade
made_injective e f h = ap unmade h

-- an entry of the trail of a room is one of its history
at_history : (h : List (ℕ × Call)) (i : ℕ) (e : ℕ × Call) → slice_get (map made h) i ≡ Some (made e) → slice_get h i ≡ Some e
at_history [] i e q = absurd cc
at_history (f ∷ fs) zero e q = ap Some (made_injective f e (cc q))
at_history (f ∷ fs) (suc i) e q = at_history fs i e q

at_call : (R : Account) (i : ℕ) (e : ℕ × Call) → slice_get (trail_of R) i ≡ Some (made e) → (j : ℕ) × (slice_get R.history j ≡ Some e)
at_call R zero e q = absurd (cc q)
at_call R (suc i) e q = (i, at_history R.history i e q)

pub owns_calls : (mine seen : List Item) (R : Account) → Among mine seen → trail_of R ≡ seen → AreRisingFrom 0 R.history
    → Owns (calls_of mine) (calls_of seen)
owns_calls mine seen R among is rising k e q =
    let history : calls_of seen ≡ R.history = ap calls_of (sym is) ∙ calls_made R.history in
    let a = at_item mine k e q in
    let b = among a.0 (made e) a.1 in
    let c = at_call R b.0 e (ap (λ (l : List Item). slice_get l b.0) is ∙ b.1) in (
      c.0,
      ap (λ (l : List (ℕ × Call)). slice_get l c.0) history ∙ c.1,
      λ j f p same. one_place 0 R.history c.0 j e f rising c.1 (ap (λ (l : List (ℕ × Call)). slice_get l j) (sym history) ∙ p) same,
    )

pub legal_calls : (seen : List Item) (R : Account) → trail_of R ≡ seen → IsLegal R.history → IsLegal (calls_of seen)
legal_calls seen R is legal = subst IsLegal (sym (ap calls_of (sym is) ∙ calls_made R.history)) legal

pub short_calls : (v : Sight Item) (K R : Account) → LeftFor v 0 (trail_of K) → trail_of R ≡ v.seen
    → length (state_of R.opening R.history).log ≤ 131072
    → length (state_of K.opening (calls_of v.seen)).log ≤ 131072
short_calls v K R left is short =
    let opened : R.opening ≡ K.opening = same_opening K R v left (sym is) in
    let history : R.history ≡ calls_of v.seen = sym (ap calls_of (sym is) ∙ calls_made R.history) in
    subst (λ (h : List (ℕ × Call)). length (state_of K.opening h).log ≤ 131072) history
    (subst (λ (o : State). length (state_of o R.history).log ≤ 131072) opened short)

-- ---- no ticket stands twice among a pass's own calls

abbrev bit : Bool → ℕ
bit true = 1
bit false = 0

-- how often a ticket stands among some calls
abbrev times : ℕ → List (ℕ × Call) → ℕ
times t [] = 0
times t (e ∷ es) = bit (e.0 == t) + times t es

-- the same, of an item of a trail
abbrev is_of : ℕ → Item → ℕ
is_of t (Opened S) = 0
is_of t (Made u c) = bit (u == t)

weigh_times : (t : ℕ) (xs : List Item) → weigh (is_of t) xs ≡ times t (calls_of xs)
weigh_times t [] = refl
weigh_times t (Opened S ∷ xs) = let e = weigh_times t xs in omega arith
weigh_times t (Made u c ∷ xs) = ap (λ n. bit (u == t) + n) (weigh_times t xs)

bit_same : (a t : ℕ) → a ≡ t → bit (a == t) ≡ 1
bit_same a t e = go (a == t) refl
  where
    go : (b : Bool) → (a == t) ≡ b → bit b ≡ 1
    go true q = refl
    go false q = absurd (grind (arith, nat_tests))

bit_other : (a t : ℕ) → (a ≡ t → ⊥) → bit (a == t) ≡ 0
bit_other a t ne = go (a == t) refl
  where
    go : (b : Bool) → (a == t) ≡ b → bit b ≡ 0
    go false q = refl
    go true q = absurd (ne (grind (arith, nat_tests)))

-- rising tickets from a later one on
none_later : (u t : ℕ) (h : List (ℕ × Call)) → AreRisingFrom u h → t < u → times t h ≡ 0
none_later u t [] r lt = refl
none_later u t (e ∷ es) r lt =
    let a = bit_other e.0 t (λ same. let b = r.0 in omega arith) in
    let n = none_later (e.0 + 1) t es r.2 (let b = r.0 in omega arith) in omega arith

once_in : (u t : ℕ) (h : List (ℕ × Call)) → AreRisingFrom u h → times t h ≤ 1
once_in u t [] r = omega arith
once_in u t (e ∷ es) r = go (once_in (e.0 + 1) t es r.2) (e.0 == t) refl
  where
    go : times t es ≤ 1 → (b : Bool) → (e.0 == t) ≡ b → bit b + times t es ≤ 1
    go n true q = let same : e.0 ≡ t = grind (arith, nat_tests) in let m = none_later (e.0 + 1) t es r.2 (omega arith) in omega arith
    go n false q = omega arith

has_times : (t : ℕ) (h : List (ℕ × Call)) (l : ℕ) (f : ℕ × Call) → slice_get h l ≡ Some f → f.0 ≡ t → 1 ≤ times t h
has_times t [] l f q same = absurd cc
has_times t (g ∷ gs) zero f q same = let is : g ≡ f = cc q in let b = bit_same g.0 t (ap (λ (x : ℕ × Call). x.0) is ∙ same) in omega arith
has_times t (g ∷ gs) (suc l) f q same = let n = has_times t gs l f q same in omega arith

distinct_of : (h : List (ℕ × Call)) → ((t : ℕ) → times t h ≤ 1) → AreDistinct h
distinct_of [] once k l e f p q same = absurd cc
distinct_of (g ∷ gs) once zero zero e f p q same = refl
distinct_of (g ∷ gs) once zero (suc l) e f p q same =
    let is : g ≡ e = cc p in let b = bit_same g.0 e.0 (ap (λ (x : ℕ × Call). x.0) is) in
    let n = has_times e.0 gs l f q (sym same) in let m = once e.0 in absurd (omega arith)
distinct_of (g ∷ gs) once (suc k) zero e f p q same =
    let is : g ≡ f = cc q in let b = bit_same g.0 f.0 (ap (λ (x : ℕ × Call). x.0) is) in
    let n = has_times f.0 gs k e p same in let m = once f.0 in absurd (omega arith)
distinct_of (g ∷ gs) once (suc k) (suc l) e f p q same =
    ap suc (distinct_of gs (λ t. let m = once t in omega arith) k l e f p q same)

pub distinct_calls : (mine : List Item) (R : Account) → ((h : Item → ℕ) → weigh h mine ≤ weigh h (trail_of R))
    → AreRisingFrom 0 R.history → AreDistinct (calls_of mine)
distinct_calls mine R made rising =
    distinct_of (calls_of mine)
    (λ t.
    let a = weigh_times t mine in let b = weigh_times t (trail_of R) in let c = ap (times t) (calls_made R.history) in
    let d = once_in 0 t R.history rising in let e = made (is_of t) in omega arith)
